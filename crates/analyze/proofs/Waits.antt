-- The pair lies inside of the ranks of all, and what comes after it waits where a call on the pair leaves it.
-- Assumes nothing.
use Rattle.std.proofs.Common.{◌≡◌, ℕ, ◌≤◌, List, sym, ap, ◌∙◌, arith}
use Rattle.definitions.specs.Usage.{Entries, none, count}
use Rattle.definitions.proofs.Nodes.{few_entries}
use Rattle.record_links.specs.Rows.{chain}
use Rattle.record_links.proofs.Stands.{row_le}
use Rattle.record_links.proofs.Chains.{chain_zero, chain_many, down_chain}
use Rattle.record_links.proofs.Entries.{count_onto}
use Rattle.place_states.specs.Continuation.{Continuation, entries, element, joins, outer}
use Rattle.place_states.specs.States.{Outside}
use Rattle.place_states.specs.declared.State.{State}

pub outside_inside : (k : ℕ) (y : Continuation) (s : List ℕ) (a : ℕ) (st : State) (r : ℕ → ℕ) (lo c e hi : ℕ) → Outside k y s a st r lo c e hi → (lo ≤ c) × (e ≤ hi)
unfolding Outside
outside_inside k (entries es) s a st r lo c e hi h = (h.low, row_le es s st.rest 0 r e hi h.held)
outside_inside k (element z n) s a st r lo c e hi h = (omega (arith, h.root.low, h.root.high), h.high)
outside_inside k (joins z low mid high d) s a st r lo c e hi h = (omega (arith, h.root.low, h.root.high), row_le high s st.q 0 r e hi h.high_held)

-- the entries that come after
abbrev waiting : Continuation → Entries
waiting (entries es) = es
waiting (element z n) = none
waiting (joins z low mid high d) = mid

pub outside_chain : (k : ℕ) (y : Continuation) (s : List ℕ) (a : ℕ) (st : State) (r : ℕ → ℕ) (lo c e hi : ℕ) → outer y ≤ 65536 → Outside k y s a st r lo c e hi → chain 65536 s st.rest ≡ count (waiting y)
unfolding Outside
outside_chain k (entries es) s a st r lo c e hi few h = chain_many 65536 es s st.rest r e hi (omega (arith, few_entries es)) h.held
outside_chain k (element z n) s a st r lo c e hi few h = ap (chain 65536 s) h.rest ∙ chain_zero 65536 s
outside_chain k (joins z low mid high d) s a st r lo c e hi few h =
    let n : count mid ≡ count h.mid_down = ap count h.mid_is ∙ omega (arith, count_onto h.mid_down none) in
    down_chain 65536 h.mid_down s st.rest r h.m c (omega (arith, few_entries mid)) h.mid_held ∙ sym n
