-- Components are earlier types of the table, so that each may be asked for its size.
use borrow.Author.Rules.{rules}
use Rattle.layout.proofs.Finding.{some_stride, element_type, finds_element, field_types, finds_field}
use Rattle.layout.proofs.setting.Setting.find_components_containing.Goals as goal

pub in_elements-requires : goal.in_elements-requires
in_elements-requires c = search (some_stride, element_type, rules)

pub returns-then-from-eq0 : goal.returns-then-from-eq0
returns-then-from-eq0 c = search (finds_element, rules)

pub in_fields-requires : goal.in_fields-requires
in_fields-requires c = search (field_types, rules)

pub returns-in-Fields : goal.returns-in-Fields
returns-in-Fields c = search (finds_field, rules)
