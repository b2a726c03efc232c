-- What is left of usages behind k of their nodes, by induction on k: so many nodes fewer, the first of which is node k.
-- Assumes nothing.
use Prim.Native.Nat.{ℕ, zero, suc, ◌+◌, ◌<◌, ◌≤◌}
use mathlib.Core.Path.{◌≡◌, refl, ap}
use native.Mathlib.Omega.{arith}
use Rattle.definitions.specs.Usage.{Usage, Entries, none, entry, nodes, nodes_in}
use Rattle.definitions.proofs.Nodes.{some_node}
use Rattle.stream_load.specs.Loading.{behind, behind_first, onward}
use Rattle.stream_load.proofs.Pending.{behind_nodes}

first_nodes : (es : Entries) → 1 ≤ nodes_in es → suc (nodes_in (behind_first es)) ≡ nodes_in es
first_nodes none h = absurd (omega arith)
first_nodes (entry o u es) h = behind_nodes u es

pub onward_nodes : (k : ℕ) (es : Entries) → k ≤ nodes_in es → k + nodes_in (onward k es) ≡ nodes_in es
unfolding onward
onward_nodes zero es h = omega arith
onward_nodes (suc k) es h =
    let before : k + nodes_in (onward k es) ≡ nodes_in es = onward_nodes k es (omega arith) in
    omega (arith, first_nodes (onward k es) (omega arith))

pub no_node : (es : Entries) → nodes_in es ≡ 0 → es ≡ none
no_node none e = refl
no_node (entry o u es) e = absurd (omega (arith, some_node u))

-- node k, and what is left behind its usage
pub record Node (k : ℕ) (es : Entries) : Type 0 where
  pub offset : ℕ
  pub usage : Usage
  pub others : Entries
  pub first : onward k es ≡ entry offset usage others
  pub next : onward (suc k) es ≡ behind usage others
  pub within : k + (nodes usage + nodes_in others) ≡ nodes_in es

node_by : (k : ℕ) (es x : Entries) → k < nodes_in es → onward k es ≡ x → Node k es
unfolding onward
node_by k es none lt e = absurd (omega (arith, onward_nodes k es (omega arith), ap nodes_in e))
node_by k es (entry o u others) lt e = record {
  offset = o;
  usage = u;
  others = others;
  first = e;
  next = ap behind_first e;
  within = omega (arith, onward_nodes k es (omega arith), ap nodes_in e);
}

pub node : (k : ℕ) (es : Entries) → k < nodes_in es → Node k es
node k es lt = node_by k es (onward k es) lt refl
