-- Loading node by node: node k goes to record k from q on, and the bytes that are left are those of what is left behind it.
-- Assumes nothing.
use Prim.Native.Nat.{ℕ, suc, ◌+◌, ◌-◌, ◌<◌, ◌≤◌}
use mathlib.Core.Path.{◌≡◌, ap, sym, ◌∙◌, subst}
use mathlib.Core.List.{List, ◌++◌, append_assoc, append-nil}
use native.Mathlib.Decide.{dec_lt}
use native.Mathlib.Omega.{arith}
use lib.ListN.{length, get_or, drop}
use lib.Seq.{get_or-drop}
use Rattle.definitions.specs.Usage.{Usage, unused, leaf, map, array, Entries, none, entry, nodes}
use Rattle.definitions.specs.Command.{head_of}
use Rattle.definitions.specs.Stream.{write_node, read, read_node}
use Rattle.definitions.proofs.Written.{Bytes}
use Rattle.definitions.proofs.Rounds.{read_write}
use Rattle.records.specs.Records.{command_in, Cell, cell}
use Rattle.stream_load.specs.Nodes.{front_behind, own, OwnAt}
use Rattle.stream_load.specs.Loading.{behind, onward, Bare, FirstBare, Raw, Linked, AllTied, OwnLoaded, Loadable, NodesLoaded, Loaded}
use Rattle.stream_load.proofs.Fits.{Fit, behind_fit, own_fits}
use Rattle.stream_load.proofs.Linked.{linked_at, linked_stands}
use Rattle.stream_load.proofs.Onward.{onward_nodes, no_node, Node, node}
use Rattle.stream_load.proofs.Pending.{pending, own_first}
use Rattle.numbers.proofs.Places.{inside}

abbrev pub whole : Usage → Entries
whole u = entry 0 u none

bare_move : (es : Entries) (s s' : List ℕ) (q : ℕ) → cell s' q ≡ cell s q → FirstBare es s q → FirstBare es s' q
bare_move none s s' q e b = tt
bare_move (entry o u es) s s' q e b = e ∙ b

-- the first k nodes of u are loaded, and what is left stands from p on, with `rest` behind it
pub record Remaining (u : Usage) (s rest : List ℕ) (p : ℕ) (work : List ℕ) (q k front : ℕ) : Type 0 where
  pub text : drop p s ≡ pending front (onward k (whole u)) ++ rest
  pub fit : Fit front (onward k (whole u))
  pub raw : (j : ℕ) → j < k → FirstBare (onward j (whole u)) work (q + j)

-- node k, and how it goes on once it is in its record
pub record Turn (u : Usage) (s rest : List ℕ) (p : ℕ) (work : List ℕ) (q k front : ℕ) : Type 0 where
  pub usage : Usage
  pub offset : ℕ
  pub after : List ℕ
  pub stands : OwnAt front offset usage s p after
  pub next : (work' : List ℕ) (p' front' : ℕ) → Bare usage work' (q + k) offset → drop p' s ≡ after → ((j : ℕ) → (j ≡ q + k → ⊥) → cell work' j ≡ cell work j)
      → front' ≡ front_behind (command_in work' (q + k)) → Remaining u s rest p' work' q (suc k) front'

begin : (u : Usage) (s rest : List ℕ) (at : ℕ) (work : List ℕ) (q : ℕ) → Bytes (drop at s) → read_node (drop at s) ≡ read u rest → Remaining u s rest at work q 0 0
unfolding onward
begin u s rest at work q small e =
    let W = read_write (drop at s) u rest small e in
    record {
      text = W.0 ∙ ap (λ (l : List ℕ). l ++ rest) (sym (append-nil (write_node u)));
      fit = (omega arith, W.1, tt);
      raw = λ j lt. absurd (omega arith);
    }

module _ {u : Usage} {s rest : List ℕ} {p : ℕ} {work : List ℕ} {q k front : ℕ} where
  pub turn : Remaining u s rest p work q k front → k < nodes u → Turn u s rest p work q k front
  turn R lt =
      let N : Node k (whole u) = node k (whole u) (omega arith) in
      let v : Usage = N.usage in
      let es : Entries = N.others in
      let after : List ℕ = pending (front_behind (head_of v).command) (behind v es) in
      let fit : Fit front (entry N.offset v es) = subst (Fit front) N.first R.fit in
      let fits = own_fits v fit.1 in
      record {
        usage = v;
        offset = N.offset;
        after = after ++ rest;
        stands = record {
          offset = fit.0;
          size = fits.0;
          argument = fits.1;
          text = R.text ∙ ap (λ (x : Entries). pending front x ++ rest) N.first ∙ ap (λ (l : List ℕ). l ++ rest) (own_first front N.offset v es) ∙ append_assoc (own front N.offset v) after rest;
        };
        next = λ work' p' front' root d others e.
            let front-is : front' ≡ front_behind (head_of v).command = e ∙ ap (λ (x : Cell). front_behind x.command) root in
            record {
              text = rw (front-is, N.next) d;
              fit = rw (front-is, N.next) (behind_fit v es fit.1 fit.2);
              raw = λ j l. elim (dec_lt j k) [
                | yes h ↦ bare_move (onward j (whole u)) work work' (q + j) (others (q + j) (omega arith)) (R.raw j h)
                | no h ↦
                    let here : j ≡ k = omega arith in
                    rw (here, N.first) root
              ];
            };
      }

  finish : Remaining u s rest p work q k front → k ≡ nodes u → Raw u work q × (drop p s ≡ rest)
  unfolding Raw
  finish R e =
      let no_more : onward k (whole u) ≡ none = no_node (onward k (whole u)) (omega (arith, onward_nodes k (whole u) (omega arith))) in
      ((λ j lt. R.raw j (omega arith)), R.text ∙ ap (λ (x : Entries). pending front x ++ rest) no_more)

-- whatever the bytes at `at` read as
pub record Loads (s : List ℕ) (at p : ℕ) (work : List ℕ) (q end i front : ℕ) : Type 0 where
  pub of : (u : Usage) (rest : List ℕ) → read_node (drop at s) ≡ read u rest → q + nodes u ≡ end → Remaining u s rest p work q (i - q) front

-- they read as one usage only
pub same_nodes : {s : List ℕ} {at n : ℕ} {work : List ℕ} {q : ℕ} → Loadable s at n work q → (u : Usage) (rest : List ℕ) → read_node (drop at s) ≡ read u rest → q + nodes u ≡ q + n
same_nodes L u rest e = let same : u ≡ L.usage = cc L.reads in omega (arith, L.many, ap nodes same)

pub loads_none : {s : List ℕ} {at : ℕ} {work : List ℕ} {q end : ℕ} → ((k : ℕ) → get_or s k 0 < 256) → Loads s at at work q end q 0
loads_none {s} {at} {work} {q} small = record {
  of = λ u rest e ends.
      let none_yet : q - q ≡ 0 = omega arith in
      rw none_yet (begin u s rest at work q (λ k. rw get_or-drop (small (at + k))) e);
}

module _ {s : List ℕ} {at p : ℕ} {work : List ℕ} {q end i front : ℕ} (S : Loads s at p work q end i front) (le : q ≤ i) where
  pub this_turn : {n : ℕ} {work₀ : List ℕ} (L : Loadable s at n work₀ q) → q + n ≡ end → i < end → Turn L.usage s L.rest p work q (i - q) front
  this_turn L e lt = turn (S.of L.usage L.rest L.reads (omega (arith, L.many))) (omega (arith, L.many))

  pub loads_more : {work' : List ℕ} {p' front' : ℕ} → i < end → OwnLoaded s p front work i work' p' → front' ≡ front_behind (command_in work' i)
      → Loads s at p' work' q end (i + 1) front'
  loads_more {work'} {p'} {front'} lt O e = record {
    of = λ u rest reads ends.
        let T = turn (S.of u rest reads ends) (omega arith) in
        let here : i ≡ q + (i - q) = omega arith in
        let one_more : i + 1 - q ≡ suc (i - q) = omega arith in
        let root : Bare T.usage work' (q + (i - q)) T.offset =
        subst (λ (x : ℕ). Bare T.usage work' x T.offset) here (O.root T.offset T.usage T.after T.stands) in
        rw one_more (T.next work' p' front' root (O.behind T.offset T.usage T.after T.stands) (λ j ne. O.others j (omega arith))
        (subst (λ (x : ℕ). front' ≡ front_behind (command_in work' x)) here e));
  }

  pub loads_done : i ≡ end → (u : Usage) (rest : List ℕ) → read_node (drop at s) ≡ read u rest → q + nodes u ≡ end → Raw u work q × (drop p s ≡ rest)
  loads_done over u rest e ends = finish (S.of u rest e ends) (omega arith)

-- a node has bytes, so that it begins inside
some_byte : (u : Usage) → 1 ≤ length (write_node u)
some_byte (unused z) = omega arith
some_byte (leaf z k t) = omega arith
some_byte (map z es) = omega arith
some_byte (array z n e) = omega arith

pub begins_inside : {s : List ℕ} {at n : ℕ} {work : List ℕ} {q : ℕ} → ((k : ℕ) → get_or s k 0 < 256) → Loadable s at n work q → at ≤ length s
begins_inside {s} {at} small L =
    let W = read_write (drop at s) L.usage L.rest (λ k. rw get_or-drop (small (at + k))) L.reads in
    omega (arith, inside s at (write_node L.usage) L.rest W.0 (some_byte L.usage))

-- All nodes are loaded, and then linked

module _ {s : List ℕ} {at n : ℕ} {work : List ℕ} {q : ℕ} {work₁ : List ℕ} {r : ℕ} (L : Loadable s at n work q) (R : NodesLoaded s at work q work₁ r) where
  pub loaded : {work₂ : List ℕ} → length work₁ ≡ length work → length work₂ ≡ length work₁ → AllTied work₁ q n work₂ → Loaded s at work q work₂ r
  loaded {work₂} len len' T =
      let linked : (u : Usage) (rest : List ℕ) → read_node (drop at s) ≡ read u rest → Linked u work₂ q 0 = λ u rest e.
      T.linked u (R.raw u rest e) (omega (arith, same_nodes L u rest e)) in
      record {
        stands = λ u rest e. linked_stands u work₂ q 0 L.some (omega (arith, L.inside, same_nodes L u rest e)) (linked u rest e);
        run = λ u rest e. linked_at u work₂ q 0 (linked u rest e);
        behind = R.behind;
        within = R.within;
        kept = λ j lt. T.kept j lt ∙ R.kept j lt;
      }
