-- Writing a node and what is linked below it: its own part and its element, or its own part and its entries, of which each turn
-- moves one over from what is left to what is written.
-- Assumes nothing.
use Prim.Native.Nat.{ℕ, suc, ◌+◌, ◌*◌, ◌<◌, ◌≤◌}
use mathlib.Core.Path.{◌≡◌, refl, ap, sym, ◌∙◌, subst}
use mathlib.Core.List.{List, [], ◌++◌, append_assoc, append-nil}
use native.Mathlib.Omega.{arith}
use lib.ListN.{length, length-append}
use Rattle.definitions.specs.Usage.{Size, Usage, unused, leaf, map, array, Entries, none, size, nodes, nodes_in}
use Rattle.definitions.specs.Command.{head_of}
use Rattle.definitions.specs.Stream.{bytes, write_head, write_node, write_entries}
use Rattle.definitions.proofs.Numbers.{bytes_length}
use Rattle.definitions.proofs.Nodes.{few_entries}
use Rattle.qptr.specs.declared.Kind.{Kind}
use Rattle.qptr.specs.declared.Kind.TheVariants.{OffsetBase, DynOffsetBase}
use Rattle.qptr.specs.Values.{kind_of}
use Rattle.qptr.proofs.Nodes.{map_command, array_command}
use Rattle.records.specs.Records.{command_in, next_in, child_in, offset_in, argument_in}
use Rattle.record_links.specs.Standing.{Stands, Row}
use Rattle.record_links.specs.Rows.{chain, nodes_at}
use Rattle.record_links.proofs.Stands.{stands_root}
use Rattle.record_links.proofs.Rows.{head, end_0}
use Rattle.record_links.proofs.Weights.{nodes_at_lem}
use Rattle.record_links.proofs.Shapes.{map_of, array_of}
use Rattle.stream_write.specs.Writing.{Readable}
use Rattle.stream_write.proofs.Counting.{row_less}

-- A node alone, an array

pub one_writes : (u : Usage) (s : List ℕ) (q : ℕ) (c : Kind) (rank : ℕ → ℕ) (lo hi : ℕ) → c ≡ kind_of (command_in s q) → (c ≡ DynOffsetBase → ⊥) → (c ≡ OffsetBase → ⊥) → Stands u s q rank lo hi → write_head (head_of u) ≡ write_node u
unfolding Stands
one_writes (unused z) s q c rank lo hi e n₄ n₃ h = refl
one_writes (leaf z k t) s q c rank lo hi e n₄ n₃ h = refl
one_writes (map z es) s q c rank lo hi e n₄ n₃ h = absurd (n₃ (e ∙ ap kind_of h.0.command))
one_writes (array z n x) s q c rank lo hi e n₄ n₃ h = absurd (n₄ (e ∙ ap kind_of h.0.command))

array_form : (u : Usage) (z : Size) (n : ℕ) (e : Usage) → u ≡ array z n e → (write_node u ≡ write_head (head_of u) ++ write_node e) × (nodes u ≡ suc (nodes e))
array_form u z n e q = (rw q, rw q)

-- the element of the array at record q
pub record Element (u : Usage) (s : List ℕ) (q x : ℕ) (rank : ℕ → ℕ) (hi : ℕ) : Type 0 where
  pub node : Usage
  pub stands : Stands node s x rank (suc (rank q)) hi
  pub writes : write_node u ≡ write_head (head_of u) ++ write_node node
  pub many : nodes u ≡ suc (nodes node)

pub element : (u : Usage) (s : List ℕ) (q : ℕ) (c : Kind) (x : ℕ) (rank : ℕ → ℕ) (lo hi : ℕ) → c ≡ kind_of (command_in s q) → c ≡ DynOffsetBase → x ≡ child_in s q → Stands u s q rank lo hi → Element u s q x rank hi
element u s q c x rank lo hi ec e₄ ex h =
    let A = array_of u s q rank lo hi (array_command ec e₄) h in
    let W = array_form u (size u) (argument_in s q) A.0 A.1 in
    record { node = A.0; stands = subst (λ (y : ℕ). Stands A.0 s y rank (suc (rank q)) hi) (sym ex) A.2; writes = W.0; many = W.1 }

module _ (s : List ℕ) (q : ℕ) (c : Kind) (x : ℕ) (P : Readable s q) (ec : c ≡ kind_of (command_in s q)) (e₄ : c ≡ DynOffsetBase) (ex : x ≡ child_in s q) where
  abbrev E : Element P.usage s q x P.rank P.hi
  E = element P.usage s q c x P.rank P.lo P.hi ec e₄ ex P.stands

  abbrev pub element_readable : Readable s x
  element_readable = record {
    usage = E.node;
    rank = P.rank;
    lo = suc (P.rank q);
    hi = P.hi;
    stands = E.stands;
    inside = (stands_root E.node s x P.rank (suc (P.rank q)) P.hi E.stands).inside;
    small = omega (arith, P.small, E.many);
  }

  pub element_fewer : (t : ℕ) → nodes_at s q ≡ t → nodes_at s x < t
  element_fewer t e =
      let m = E.many in
      let a = nodes_at_lem E.node s x P.rank (suc (P.rank q)) P.hi E.stands (omega (arith, P.small)) in
      let b = nodes_at_lem P.usage s q P.rank P.lo P.hi P.stands P.small in
      omega (arith, a, b)

-- A map

map_form : (u : Usage) (z : Size) (es : Entries) → u ≡ map z es → (write_node u ≡ write_head (head_of u) ++ write_entries es) × (nodes u ≡ suc (nodes_in es))
map_form u z es q = (rw q, rw q)

-- the entries of the map at record q
pub record Below (u : Usage) (s : List ℕ) (q : ℕ) (rank : ℕ → ℕ) (hi : ℕ) : Type 0 where
  pub entries : Entries
  pub row : Row entries s (child_in s q) 0 rank (suc (rank q)) hi
  pub writes : write_node u ≡ write_head (head_of u) ++ write_entries entries
  pub many : nodes u ≡ suc (nodes_in entries)

pub below : (u : Usage) (s : List ℕ) (q : ℕ) (rank : ℕ → ℕ) (lo hi : ℕ) → command_in s q ≡ 3 → Stands u s q rank lo hi → Below u s q rank hi
below u s q rank lo hi e h =
    let M = map_of u s q rank lo hi e h in
    let W = map_form u (size u) M.0 M.1 in
    record { entries = M.0; row = M.3; writes = W.0; many = W.1 }

-- `text` of the entries is written as `Done` says, and those from record i on are left
pub record Sofar (Done : List ℕ → Type 0) (es : Entries) (s : List ℕ) (i : ℕ) (rank : ℕ → ℕ) (hi : ℕ) : Type 0 where
  pub text : List ℕ
  pub left : Entries
  pub m : ℕ
  pub row : Row left s i 0 rank m hi
  pub writes : text ++ write_entries left ≡ write_entries es
  pub fewer : nodes_in left ≤ nodes_in es
  pub done : Done text

-- whichever they are; of some it is known that they end by `limit`, from `base` on
pub record Writing (Done : List ℕ → Type 0) (s : List ℕ) (q i base limit : ℕ) : Type 0 where
  pub three : command_in s q ≡ 3
  pub standing : Readable s q
  pub entries : Below standing.usage s q standing.rank standing.hi
  pub room : base + length (write_entries entries.entries) ≤ limit
  pub of : (es : Entries) (rank : ℕ → ℕ) (lo hi : ℕ) → Row es s (child_in s q) 0 rank lo hi → Sofar Done es s i rank hi

pub writing_none : {Done : List ℕ → Type 0} (s : List ℕ) (q : ℕ) (c : Kind) (x base limit : ℕ) (P : Readable s q) → c ≡ kind_of (command_in s q) → c ≡ OffsetBase → x ≡ child_in s q → base + length (write_node P.usage) ≤ limit + length (write_head (head_of P.usage))
    → Done [] → Writing Done s q x base limit
writing_none s q c x base limit P ec e₃ ex room start =
    let B = below P.usage s q P.rank P.lo P.hi (map_command ec e₃) P.stands in
    record {
      three = map_command ec e₃;
      standing = P;
      entries = B;
      room = omega (arith, room, ap length B.writes, length-append (write_head (head_of P.usage)) (write_entries B.entries));
      of = λ es rank lo hi h. record { text = []; left = es; m = lo; row = subst (λ (y : ℕ). Row es s y 0 rank lo hi) (sym ex) h; writes = refl; fewer = omega arith; done = start };
    }

pub writing_done : {Done : List ℕ → Type 0} (s : List ℕ) (q i base limit : ℕ) → Writing Done s q i base limit → i ≡ 0 → (es : Entries) (rank : ℕ → ℕ) (lo hi : ℕ) → Row es s (child_in s q) 0 rank lo hi → Done (write_entries es)
writing_done {Done} s q i base limit W e es rank lo hi h =
    let S = W.of es rank lo hi h in
    let z : S.left ≡ none = end_0 S.left s i rank S.m hi e S.row in
    subst Done (sym (append-nil S.text) ∙ ap (λ (x : Entries). S.text ++ write_entries x) (sym z) ∙ S.writes) S.done

-- the entry at record i
pub record Turn (Done : List ℕ → Type 0) (es : Entries) (s : List ℕ) (i : ℕ) (rank : ℕ → ℕ) (hi : ℕ) : Type 0 where
  pub text : List ℕ
  pub node : Usage
  pub left : Entries
  pub l : ℕ
  pub m : ℕ
  pub stands : Stands node s i rank l m
  pub row : Row left s (next_in s i) 0 rank m hi
  pub writes : (text ++ (bytes 4 (offset_in s i) ++ write_node node)) ++ write_entries left ≡ write_entries es
  pub fewer : nodes node + nodes_in left ≤ nodes_in es
  pub done : Done text

pub turn_of : {Done : List ℕ → Type 0} (es : Entries) (s : List ℕ) (i : ℕ) (rank : ℕ → ℕ) (hi : ℕ) → (i ≡ 0 → ⊥) → Sofar Done es s i rank hi → Turn Done es s i rank hi
turn_of es s i rank hi ne S =
    let H = head S.left s i 0 rank S.m hi ne S.row in
    let e : write_entries S.left ≡ (bytes 4 (offset_in s i) ++ write_node H.u) ++ write_entries H.rest = ap write_entries H.is in
    record {
      text = S.text;
      node = H.u;
      left = H.rest;
      l = S.m;
      m = H.m;
      stands = H.stands;
      row = H.row;
      writes = append_assoc S.text (bytes 4 (offset_in s i) ++ write_node H.u) (write_entries H.rest) ∙ ap (λ (x : List ℕ). S.text ++ x) (sym e) ∙ S.writes;
      fewer = omega (arith, S.fewer, ap nodes_in H.is);
      done = S.done;
    }

module _ {Done : List ℕ → Type 0} (s : List ℕ) (q i base limit : ℕ) (W : Writing Done s q i base limit) (ne : i ≡ 0 → ⊥) where
  pub writing_more : {Done' : List ℕ → Type 0} (i' : ℕ) → i' ≡ next_in s i
      → ((text : List ℕ) (v : Usage) (rank : ℕ → ℕ) (lo hi : ℕ) → Stands v s i rank lo hi → Done text → Done' (text ++ (bytes 4 (offset_in s i) ++ write_node v))) → Writing Done' s q i' base limit
  writing_more i' e on = record {
    three = W.three;
    standing = W.standing;
    entries = W.entries;
    room = W.room;
    of = λ es rank lo hi h.
        let T = turn_of es s i rank hi ne (W.of es rank lo hi h) in
        record {
          text = T.text ++ (bytes 4 (offset_in s i) ++ write_node T.node);
          left = T.left;
          m = T.m;
          row = subst (λ (y : ℕ). Row T.left s y 0 rank T.m hi) (sym e) T.row;
          writes = T.writes;
          fewer = omega (arith, T.fewer);
          done = on T.text T.node rank T.l T.m T.stands T.done;
        };
  }

  -- of the usage that is known to stand there

  abbrev P : Readable s q
  P = W.standing

  abbrev B : Below P.usage s q P.rank P.hi
  B = W.entries

  abbrev turn : Turn Done B.entries s i P.rank P.hi
  turn = turn_of B.entries s i P.rank P.hi ne (W.of B.entries P.rank (suc (P.rank q)) P.hi B.row)

  abbrev pub entry_readable : Readable s i
  entry_readable = record {
    usage = turn.node;
    rank = P.rank;
    lo = turn.l;
    hi = turn.m;
    stands = turn.stands;
    inside = (stands_root turn.node s i P.rank turn.l turn.m turn.stands).inside;
    small = omega (arith, P.small, B.many, turn.fewer);
  }

  pub entry_inside : i * 32 + 32 ≤ length s
  entry_inside = entry_readable.inside

  -- what is written, and that this entry fits behind it

  abbrev pub written : List ℕ
  written = turn.text

  pub written_done : Done written
  written_done = turn.done

  pub entry_fits : base + (length written + (4 + length (write_node entry_readable.usage))) ≤ limit
  entry_fits =
      let w = turn.text in
      let b : List ℕ = bytes 4 (offset_in s i) in
      let v = write_node turn.node in
      omega (
        arith,
        W.room,
        ap length turn.writes,
        length-append (w ++ (b ++ v)) (write_entries turn.left),
        length-append w (b ++ v),
        length-append b v,
        bytes_length 4 (offset_in s i),
      )

  pub entry_fewer : (t : ℕ) → nodes_at s q ≡ t → nodes_at s i < t
  entry_fewer t e =
      let m = B.many in
      let f = turn.fewer in
      let a = nodes_at_lem turn.node s i P.rank turn.l turn.m turn.stands (omega (arith, P.small)) in
      let b = nodes_at_lem P.usage s q P.rank P.lo P.hi P.stands P.small in
      omega (arith, a, b)

  pub writing_less : (i' : ℕ) → i' ≡ next_in s i → chain 65536 s i' < chain 65536 s i
  writing_less i' e =
      let S = W.of B.entries P.rank (suc (P.rank q)) P.hi B.row in
      row_less S.left s i i' P.rank S.m P.hi ne e (omega (arith, few_entries S.left, S.fewer, B.many, P.small)) S.row
