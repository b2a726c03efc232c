-- Two usages that stand side by side are what a call may assume, and they have the nodes that are linked below their records; a rule that asks
-- no type begins a placing whatever the table is.
-- Assumes nothing.
use Rattle.std.proofs.Common.{◌≡◌, ℕ, ◌+◌, List, length, arith}
use Rattle.std.specs.Prelude.{Result as Returned}
use Rattle.definitions.specs.Usage.{Usage, nodes}
use Rattle.definitions.specs.Table.{Setting}
use Rattle.record_links.specs.Rows.{nodes_at}
use Rattle.record_links.proofs.Stands.{stands_root}
use Rattle.record_links.proofs.Weights.{nodes_at_lem}
use Rattle.layout.specs.declared.setting.Setting.{Setting as CodeSetting}
use Rattle.layout.specs.Located.{Known}
use Rattle.report.specs.declared.Report.{Report}
use Rattle.place_states.specs.Calls.{Two, Linkable, Ready}
use Rattle.place_states.specs.Starts.{Begins, Starts}
use Rattle.place_states.specs.declared.SizeRefusal.{SizeRefusal}
use Rattle.place_states.specs.declared.State.{State}

pub ready_two : {code : CodeSetting} {s : List ℕ} {a b : ℕ} (st : Setting) {r : ℕ → ℕ} {lo mid hi : ℕ} {t u : Usage} → Two (length st.table) s a b r lo mid hi t u → Known code st → Linkable s → Ready code s a b
ready_two {s} {a} {b} st {r} {lo} {mid} {hi} {t} {u} two known linkable =
    let T = stands_root t s a r lo mid two.left in
    let U = stands_root u s b r mid hi two.right in
    record {
      setting = st;
      known = known;
      t = t;
      u = u;
      r = r;
      lo = lo;
      mid = mid;
      hi = hi;
      two = two;
      left_in = T.inside;
      right_in = U.inside;
      left_some = T.some;
      right_some = U.some;
      linkable = linkable;
    }

pub two_nodes : {k : ℕ} {s : List ℕ} {a b : ℕ} {r : ℕ → ℕ} {lo mid hi : ℕ} {t u : Usage} → Two k s a b r lo mid hi t u → nodes t + nodes u ≡ nodes_at s a + nodes_at s b
two_nodes {s} {a} {b} {r} {lo} {mid} {hi} {t} {u} two =
    omega (arith, two.few, nodes_at_lem t s a r lo mid two.left (omega (arith, two.few)), nodes_at_lem u s b r mid hi two.right (omega (arith, two.few)))

pub starts_begins : (code : CodeSetting) (s : List ℕ) (a d b : ℕ) (rep : Report) (s' : List ℕ) (rep' : Report) (r : Returned State SizeRefusal)
    → Starts s a d b rep s' rep' r → Begins code s a d b rep s' rep' r
starts_begins code s a d b rep s' rep' r S =
    record { next = λ setting known t u rank lo mid hi two. S.next setting t u rank lo mid hi two }
