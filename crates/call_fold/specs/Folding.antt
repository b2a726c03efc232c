-- What folding a list may assume and what it comes to, node after node.
-- Assumes nothing.
use Rattle.std.specs.Prelude.{◌≡◌, ℕ, suc, ◌+◌, ◌*◌, ◌%◌, ◌^◌, ◌≤◌, List, Result as Returned, Ok, Err, IfOk, length, drop}
use Rattle.std.proofs.Math.Option.{some}
use Rattle.definitions.specs.Limits.{node_limit, work_limit}
use Rattle.definitions.specs.Usage.{Usage, nodes, Nodes, all_nodes}
use Rattle.definitions.specs.Stream.{read, read_node, list_of}
use Rattle.definitions.specs.Table.{Setting}
use Rattle.definitions.specs.Place.{Result, refused, done, merge_mem, of_node, fold}
use Rattle.definitions.specs.Sound.{Storable}
use Rattle.definitions.specs.Inner.Storable.{StorableList}
use Rattle.record_links.specs.Standing.{Stands}
use Rattle.layout.specs.Located.{Known}
use Rattle.layout.specs.declared.setting.Setting.{Setting as CodeSetting}
use Rattle.stream.specs.declared.Span.{Span}
use Rattle.stream_load.specs.Loading.{KeptBelow, by_number}
use Rattle.report.specs.Emitted.{Emitted, SameBuffer}
use Rattle.report.specs.declared.Report.{Report}
use Rattle.place_states.specs.Refusals.{number_of}
use Rattle.place_states.specs.declared.SizeRefusal.{SizeRefusal}
use Rattle.place_states.specs.declared.Merged.{Merged}
use Rattle.call_answers.specs.Writing.{Reached}
use Rattle.call_fold.specs.declared.Folded.{Folded}

-- a node is read at this place, and there are records for it from q on
pub record NodeReady (list : List ℕ) (at : ℕ) (work : List ℕ) (q : ℕ) : Type 0 where
  pub usage : Usage
  pub rest : List ℕ
  pub reads : read_node (drop at list) ≡ read usage rest
  pub within : at ≤ length list
  pub some : 1 ≤ q
  pub inside : (q + nodes usage) * 32 ≤ length work
  pub few : q + nodes usage ≤ 65536

-- it stands there, and the records below it are as they were
pub record NodeLoaded (list : List ℕ) (at : ℕ) (work : List ℕ) (q : ℕ) (work' : List ℕ) (r : Span) : Type 0 where
  pub stands : (u : Usage) (rest : List ℕ) → read_node (drop at list) ≡ read u rest → Stands u work' q by_number q (q + nodes u)
  pub counted : (u : Usage) (rest : List ℕ) → read_node (drop at list) ≡ read u rest → nodes u ≡ r.nodes
  pub behind : (u : Usage) (rest : List ℕ) → read_node (drop at list) ≡ read u rest → drop r.end list ≡ rest
  pub within : r.end ≤ length list
  pub kept : KeptBelow q work work'

-- a, what the nodes so far have come to, has the ranks below those of the records that are free, and b is the next node
pub record Beside (code : CodeSetting) (list : List ℕ) (f : Folded) (work : List ℕ) (st : Setting) (a b : Usage) (rest : List ℕ) : Type 0 where
  pub known : Known code st
  pub rank : ℕ → ℕ
  pub stands : Stands a work f.result.node rank 1 f.free
  pub fresh : (i : ℕ) → f.free ≤ i → rank i ≡ i
  pub reads : read_node (drop f.end list) ≡ read b rest
  pub left_fits : Storable (length st.table) a
  pub right_fits : Storable (length st.table) b
  pub few : nodes a + nodes b ≤ node_limit

-- some two, with records for b
pub record NextReady (code : CodeSetting) (list : List ℕ) (f : Folded) (work : List ℕ) (report : Report) : Type 0 where
  pub setting : Setting
  pub a : Usage
  pub b : Usage
  pub rest : List ℕ
  pub beside : Beside code list f work setting a b rest
  pub within : f.end ≤ length list
  pub room : f.free + nodes b ≤ suc node_limit
  pub area : length work ≡ work_limit
  pub near : report.at ≤ 2 ^ 61

-- what merging the node with index i gives, behind p pairings
abbrev pub of_next : ℕ → ℕ → Result Usage → Result Usage
of_next i p (refused k) = refused k
of_next i p (done u w q) = done u (of_node i w) (p + q)

-- u is the result, with the ranks below those of the records that are free; w was reported and p pairings were counted
pub record NextStood (u : Usage) (w : List ℕ) (p : ℕ) (work : List ℕ) (rep rep' : Report) (r : Folded) : Type 0 where
  pub rank : ℕ → ℕ
  pub stands : Stands u work r.result.node rank 1 r.free
  pub fresh : (i : ℕ) → r.free ≤ i → rank i ≡ i
  pub pairs : r.result.pairings ≡ p % 2 ^ 32
  pub report : Emitted rep w rep'

abbrev pub NextDone : Result Usage → List ℕ → Report → Report → Returned Folded SizeRefusal → Type 0
NextDone (refused k) work rep rep' (Err e) = (number_of e ≡ k) × SameBuffer rep rep'
NextDone (refused k) work rep rep' (Ok r) = ⊥
NextDone (done u w p) work rep rep' (Err e) = ⊥
NextDone (done u w p) work rep rep' (Ok r) = NextStood u w p work rep rep' r

-- the list is read up to behind b, whose records are in use
pub record ReadOn (list : List ℕ) (f r : Folded) : Type 0 where
  pub free : (b : Usage) (rest : List ℕ) → read_node (drop f.end list) ≡ read b rest → r.free ≡ f.free + nodes b
  pub behind : (b : Usage) (rest : List ℕ) → read_node (drop f.end list) ≡ read b rest → drop r.end list ≡ rest
  pub within : r.end ≤ length list

-- the two are merged
pub record NextFolded (code : CodeSetting) (list : List ℕ) (i : ℕ) (f : Folded) (work : List ℕ) (rep : Report) (work' : List ℕ) (rep' : Report) (r : Returned Folded SizeRefusal) : Type 0 where
  pub merged : (st : Setting) (a b : Usage) (rest : List ℕ) → Beside code list f work st a b rest
      → NextDone (of_next i f.result.pairings (merge_mem st a b)) work' rep rep' r
  pub reads : IfOk r (λ next. ReadOn list f next)

-- the list's nodes are ns, few enough, with types of the table
pub record Foldable (code : CodeSetting) (list : List ℕ) (st : Setting) (ns : Nodes) : Type 0 where
  pub known : Known code st
  pub is : list_of list ≡ some ns
  pub fits : StorableList (length st.table) ns
  pub few : all_nodes ns ≤ node_limit

pub record FoldReady (code : CodeSetting) (list work : List ℕ) : Type 0 where
  pub setting : Setting
  pub listed : Nodes
  pub foldable : Foldable code list setting listed
  pub area : length work ≡ work_limit

pub record AllFolded (code : CodeSetting) (list work' : List ℕ) (report report' : Report) (r : Returned Merged SizeRefusal) : Type 0 where
  pub of : (st : Setting) (ns : Nodes) → Foldable code list st ns → Reached (fold st ns) work' r report'
  pub kept : SameBuffer report report'
