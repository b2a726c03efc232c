-- The refusals that a call's streams meet before anything is placed: 1 to 7, but for 6, by what acceptance told of each stream.
-- Assumes nothing.
use Rattle.std.specs.Prelude.{ℕ, max, ◌+◌, ◌*◌, ◌<◌, ◌≤◌, ◌≡◌, List, [], Option, Some, None, Result as Returned, Ok, Err, IfOk, MatchResult, ltb, length, drop}
use Rattle.std.proofs.Math.Option.{Option as Maybe, none as nothing, some}
use Rattle.definitions.specs.If.{when◌then◌else◌}
use Rattle.definitions.specs.Limits.{node_limit, work_limit}
use Rattle.definitions.specs.Usage.{Usage, nodes}
use Rattle.definitions.specs.Stream.{read, read_node}
use Rattle.definitions.specs.Table.{Table, table_of}
use Rattle.record_links.specs.Standing.{Stands}
use Rattle.stream_load.specs.Loading.{by_number}
use Rattle.layout.specs.Located.{Found as Records}
use Rattle.stream.specs.declared.Found.{Found}
use Rattle.call_answers.specs.Answers.{number_of}
use Rattle.call_answers.specs.declared.Refusal.{Refusal}
use Rattle.call_answers.specs.declared.Refusal.TheVariants.{UnknownType, ManyNodes}
use Rattle.call_inputs.specs.declared.Nodes.{Nodes}

-- 3, 4, 5 and 7, or 0
abbrev pub streams_refusal : ℕ → Option Found → Option Found → ℕ
streams_refusal types None b = 3
streams_refusal types (Some f) None = 4
streams_refusal types (Some f) (Some g) =
    when ltb types (max f.types g.types) then 5
    else when ltb node_limit (f.nodes + g.nodes) then 7
    else 0

abbrev pub table_refusal : Maybe Table → Option Found → Option Found → ℕ
table_refusal nothing a b = 2
table_refusal (some t) a b = streams_refusal (length t) a b

abbrev pub inputs_refusal : ℕ → Maybe Table → Option Found → Option Found → ℕ
inputs_refusal work t a b = when ltb work work_limit then 1 else table_refusal t a b

-- 1 and 2, or 0
abbrev pub unread : Maybe Table → ℕ
unread nothing = 2
unread (some t) = 0

abbrev pub begin_refusal : ℕ → Maybe Table → ℕ
begin_refusal work t = when ltb work work_limit then 1 else unread t

-- the number of the refusal, or 0
abbrev pub refusal_of : {A : Type 0} → Returned A Refusal → ℕ
refusal_of (Ok x) = 0
refusal_of (Err e) = number_of e

-- there are enough bytes of a work area, and the table's records, so many, start there
pub record Begun (table : List ℕ) (work : ℕ) (starts : List ℕ) (types : ℕ) : Type 0 where
  pub enough : work_limit ≤ work
  pub records : Records table starts types

pub record TableMet (table : List ℕ) (work : ℕ) (starts : List ℕ) (r : Returned ℕ Refusal) : Type 0 where
  pub number : refusal_of r ≡ begin_refusal work (table_of table)
  pub good : IfOk r (λ types. Begun table work starts types)

-- 5, where a table of so many types has not all that are needed
abbrev pub KnownTypes : ℕ → ℕ → Returned (Unit {0}) Refusal → Type 0
KnownTypes types needed r = MatchResult r (λ u. needed ≤ types) (λ e. (e ≡ UnknownType) × (types < needed))

-- 7, where there are too many nodes
abbrev pub FewNodes : ℕ → Returned (Unit {0}) Refusal → Type 0
FewNodes n r = MatchResult r (λ u. n ≤ node_limit) (λ e. (e ≡ ManyNodes) × (node_limit < n))

-- no refusal: the table's records start there, and the streams have so many nodes, few enough, with types of the table
pub record Good (table : List ℕ) (work : ℕ) (a b : Option Found) (starts : List ℕ) (n : Nodes) : Type 0 where
  pub types : ℕ
  pub begun : Begun table work starts types
  pub first_types : ℕ
  pub first : a ≡ Some (record { nodes = n.first; types = first_types })
  pub first_known : first_types ≤ types
  pub second_types : ℕ
  pub second : b ≡ Some (record { nodes = n.second; types = second_types })
  pub second_known : second_types ≤ types
  pub few : n.first + n.second ≤ node_limit

pub record Met (table : List ℕ) (work : ℕ) (a b : Option Found) (starts : List ℕ) (r : Returned Nodes Refusal) : Type 0 where
  pub number : refusal_of r ≡ inputs_refusal work (table_of table) a b
  pub good : IfOk r (λ n. Good table work a b starts n)

-- the usages of two streams, behind their first bytes, have so many nodes, for which there are records
pub record Both (first second : List ℕ) (n : Nodes) (work : List ℕ) : Type 0 where
  pub a : Usage
  pub b : Usage
  pub left_reads : read_node (drop 1 first) ≡ read a []
  pub right_reads : read_node (drop 1 second) ≡ read b []
  pub left_nodes : nodes a ≡ n.first
  pub right_nodes : nodes b ≡ n.second
  pub inside : (1 + n.first + n.second) * 32 ≤ length work
  pub few : 1 + n.first + n.second ≤ 65536

-- they are records 1 and 1 + n.first, ranked by their numbers
pub record BothLoaded (first second : List ℕ) (n : Nodes) (work work' : List ℕ) : Type 0 where
  pub left : (a : Usage) → read_node (drop 1 first) ≡ read a [] → nodes a ≡ n.first → Stands a work' 1 by_number 1 (1 + n.first)
  pub right : (b : Usage) → read_node (drop 1 second) ≡ read b [] → nodes b ≡ n.second
      → Stands b work' (1 + n.first) by_number (1 + n.first) (1 + n.first + n.second)
