-- What the usages of accepted streams give, once they are loaded into a work area of just the bytes that are asked for.
-- Assumes nothing.
use Rattle.std.specs.Prelude.{ℕ, ◌+◌, ◌≤◌, ◌≡◌, List, [], ◌∷◌, Result as Returned, length, drop}
use Rattle.definitions.specs.Limits.{node_limit, work_limit}
use Rattle.definitions.specs.Usage.{Usage, nodes, Nodes as Listed}
use Rattle.definitions.specs.Stream.{read, read_node, write_node}
use Rattle.definitions.specs.Table.{Table as Layouts, Setting}
use Rattle.definitions.specs.Place.{Result, under, fold}
use Rattle.definitions.specs.Sound.{Storable}
use Rattle.definitions.specs.Calls.{written}
use Rattle.layout.specs.Located.{Known}
use Rattle.layout.specs.declared.setting.Setting.{Setting as CodeSetting}
use Rattle.call_answers.specs.Writing.{Gives}
use Rattle.call_answers.specs.declared.Refusal.{Refusal}
use Rattle.call_answers.specs.declared.Written.{Written}
use Rattle.call_inputs.specs.declared.Nodes.{Nodes}
use Rattle.call_fold.specs.Folding.{Foldable}

-- behind its first byte, bs is u, with types of the table ls
pub record Usable (ls : Layouts) (bs : List ℕ) (u : Usage) : Type 0 where
  pub reads : read_node (drop 1 bs) ≡ read u []
  pub fits : Storable (length ls) u

-- the usages of two streams, with so many nodes
pub record Pair (ls : Layouts) (first second : List ℕ) (n : Nodes) : Type 0 where
  pub a : Usage
  pub b : Usage
  pub left : Usable ls first a
  pub right : Usable ls second b
  pub left_nodes : n.first ≡ nodes a
  pub right_nodes : n.second ≡ nodes b

pub record PairReady (code : CodeSetting) (first second : List ℕ) (n : Nodes) (work : List ℕ) : Type 0 where
  pub setting : Setting
  pub known : Known code setting
  pub pair : Pair setting.table first second n
  pub few : n.first + n.second ≤ node_limit
  pub area : length work ≡ work_limit

-- what z makes of the two is given back, behind the byte `top`
pub record PairGiven (top : ℕ) (z : Setting → Usage → Usage → Result Usage) (code : CodeSetting) (first second : List ℕ) (n : Nodes) (output report : List ℕ) (r : Returned Written Refusal) (output' report' : List ℕ) : Type 0 where
  pub of : (st : Setting) → Known code st → (p : Pair st.table first second n) → n.first + n.second ≤ node_limit
      → Gives (written output (length report) (under (λ u. top ∷ write_node u) (z st p.a p.b))) r output' report'

-- the same of folding the nodes of a list
pub record ListGiven (code : CodeSetting) (list output report : List ℕ) (r : Returned Written Refusal) (output' report' : List ℕ) : Type 0 where
  pub of : (st : Setting) (ns : Listed) → Foldable code list st ns
      → Gives (written output (length report) (under (λ u. 0x0A ∷ write_node u) (fold st ns))) r output' report'
