-- A line of entries is linked the other way round one by one: those that are done come the other way, the others are as they were. Each
-- turn writes one record of the line, and what is done, what is not and what lies behind have ranks apart from it.
-- Assumes nothing.
use Prim.Native.Nat.{ℕ, suc, ◌+◌, ◌*◌, ◌<◌, ◌≤◌}
use mathlib.Core.Path.{◌≡◌, refl, sym, ap, ◌∙◌, subst}
use mathlib.Core.Bool.{Bool, not}
use mathlib.Core.List.{List}
use lib.ListN.{length}
use native.Mathlib.Omega.{arith}
use Rattle.definitions.specs.Usage.{Entries, none, entry, count}
use Rattle.records.specs.Records.{Cell, cell, next_in, offset_in, with_next, Set}
use Rattle.record_links.specs.Rows.{onto, chain}
use Rattle.record_links.specs.Frames.{Kept}
use Rattle.record_links.proofs.Stands.{stands_root, stands_le}
use Rattle.record_links.proofs.Frames.{kept_none, kept_trans, kept_set}
use Rattle.record_links.proofs.Changes.{stands_relink}
use Rattle.place_maps.specs.Runs.{Line, lower, Ahead, Run, Reversed}
use Rattle.place_maps.proofs.Lines.{line_le, lower_trans, First, first, line_one, line_ahead, line_behind, kept_between, line_end, line_wide, line_small, line_chain}

pub record Reversing (up : Bool) (es fs gs : Entries) (r : ℕ → ℕ) (y n m z : ℕ) (s₀ s : List ℕ) (e p last : ℕ) : Type 0 where
  pub done : Entries
  pub todo : Entries
  pub k : ℕ
  pub nk : lower up n k ≤ lower up k n
  pub is : onto es gs ≡ onto todo done
  pub few : count todo ≤ count es
  pub ahead : Ahead up todo fs done r y k m z s p e last
  pub kept : Kept s₀ r s r (lower up n m) (lower up m n)

pub record Reverses (s₀ : List ℕ) (q e b : ℕ) (s : List ℕ) (p last : ℕ) : Type 0 where
  pub from : Run s₀ q e b
  pub len : length s ≡ length s₀
  pub small : last < 65536
  pub goes : (up : Bool) (es fs gs : Entries) (r : ℕ → ℕ) (y n m z : ℕ) → Ahead up es fs gs r y n m z s₀ q e b → Reversing up es fs gs r y n m z s₀ s e p last

pub reverses_start : (s : List ℕ) (q e b : ℕ) → Run s q e b → Reverses s q e b s q b
reverses_start s q e b R = record {
  from = R;
  len = refl;
  small = line_small (not R.up) R.gs s b R.r R.n R.y R.linkable R.ahead.back;
  goes = λ up es fs gs r y n m z A. record { done = gs; todo = es; k = n; nk = omega arith; is = refl; few = omega arith; ahead = A; kept = kept_none s r (lower up n m) (lower up m n) };
}

module _ (s₀ : List ℕ) (q e b : ℕ) (s : List ℕ) (p last : ℕ) (T : Reverses s₀ q e b s p last) where
  abbrev R : Run s₀ q e b
  R = T.from

  -- for the entries that are there
  known : Reversing R.up R.es R.fs R.gs R.r R.y R.n R.m R.z s₀ s e p last
  known = T.goes R.up R.es R.fs R.gs R.r R.y R.n R.m R.z R.ahead

  next_first : (p ≡ e → ⊥) → First R.up known.todo s p e R.r known.k R.m
  next_first ne = first R.up known.todo s p e R.r known.k R.m ne known.ahead.run

  pub reverses_in : (p ≡ e → ⊥) → p * 32 + 32 ≤ length s
  reverses_in ne = let v = next_first ne in (stands_root v.u s p R.r (lower R.up known.k v.k) (lower R.up v.k known.k) v.stands).inside

  module _ (s' : List ℕ) (n' : ℕ) (ne : p ≡ e → ⊥) (en : n' ≡ next_in s p) (len : length s' ≡ length s) (C : Set s s' p (with_next last (cell s p))) where
    reverse : (up : Bool) (es fs gs : Entries) (r : ℕ → ℕ) (y n m z : ℕ) → Reversing up es fs gs r y n m z s₀ s e p last → Reversing up es fs gs r y n m z s₀ s' e n' p
    unfolding onto
    reverse up es fs gs r y n m z t =
        let A = t.ahead in
        let v : First up t.todo s p e r t.k m = first up t.todo s p e r t.k m ne A.run in
        let lo = lower up t.k v.k in
        let hi = lower up v.k t.k in
        let S = stands_root v.u s p r lo hi v.stands in
        let K : Kept s r s' r lo hi = kept_set s s' r lo hi p (with_next last (cell s p)) len S.low S.high C in
        let km = line_le up v.rest s (next_in s p) e r v.k m v.line in
        let less : count t.todo ≡ suc (count v.rest) = ap count v.is in
        let back : Line (not up) t.done s' last 0 r t.k y = line_behind up t.done s s' last 0 r t.k v.k len K y A.back in
        record {
          done = entry (offset_in s p) v.u t.done;
          todo = v.rest;
          k = v.k;
          nk = lower_trans up n t.k v.k t.nk (omega (arith, stands_le v.u s p r lo hi v.stands));
          is = t.is ∙ ap (λ (x : Entries). onto x t.done) v.is;
          few = omega (arith, t.few);
          ahead = record {
            run = subst (λ (x : ℕ). Line up v.rest s' x e r v.k m) (sym en) (line_ahead up v.rest s s' (next_in s p) e r t.k v.k len K v.k m (omega arith) v.line);
            rest = line_ahead up fs s s' e 0 r t.k v.k len K m z km A.rest;
            back = line_one up s' (offset_in s p) v.u t.done p r y t.k v.k (ap (λ (x : Cell). x.offset) C.here)
                (stands_relink v.u s s' p r lo hi (with_next last (cell s p)) len C refl refl refl refl v.stands)
                (subst (λ (x : ℕ). Line (not up) t.done s' x 0 r t.k y) (sym (ap (λ (x : Cell). x.next) C.here)) back);
          };
          kept = kept_trans s₀ s s' r r r (lower up n m) (lower up m n) t.kept (kept_between up s s' r n t.k v.k m t.nk km K);
        }

    pub reverses_more : Reverses s₀ q e b s' n' p
    reverses_more = record {
      from = R;
      len = len ∙ T.len;
      small = omega (arith, reverses_in ne, T.len, R.linkable);
      goes = λ up es fs gs r y n m z A. reverse up es fs gs r y n m z (T.goes up es fs gs r y n m z A);
    }

    -- one less is left
    pub reverses_less : chain 65536 s' n' < chain 65536 s p
    unfolding reverse
    reverses_less =
        let t : Reversing R.up R.es R.fs R.gs R.r R.y R.n R.m R.z s₀ s e p last = known in
        let v : First R.up t.todo s p e R.r t.k R.m = first R.up t.todo s p e R.r t.k R.m ne t.ahead.run in
        let t' : Reversing R.up R.es R.fs R.gs R.r R.y R.n R.m R.z s₀ s' e n' p = reverse R.up R.es R.fs R.gs R.r R.y R.n R.m R.z t in
        let less : count t.todo ≡ suc (count v.rest) = ap count v.is in
        let x = line_chain R.up t.todo R.fs s p e R.r t.k R.m R.z (omega (arith, R.few, t.few)) t.ahead.run t.ahead.rest in
        let x' = line_chain R.up v.rest R.fs s' n' e R.r v.k R.m R.z (omega (arith, R.few, t.few)) t'.ahead.run t'.ahead.rest in
        omega (arith, x, x')

  pub reverses_end : p ≡ e → Reversed s₀ q e b s last
  unfolding onto
  reverses_end eq = record {
    small = T.small;
    back = λ up es fs gs r y n m z A.
        let t : Reversing up es fs gs r y n m z s₀ s e p last = T.goes up es fs gs r y n m z A in
        let h = t.ahead in
        let none : t.todo ≡ none = line_end up t.todo fs s p e r t.k m z eq h.run h.rest in
        let is : onto es gs ≡ t.done = t.is ∙ ap (λ (x : Entries). onto x t.done) none in
        record {
          line = subst (λ (x : Entries). Line (not up) x s last 0 r m y) (sym is) (line_wide up t.done s last r y t.k m (line_le up t.todo s p e r t.k m h.run) h.back);
          kept = t.kept;
        };
  }
