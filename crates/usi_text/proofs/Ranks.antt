-- Ranks, and the parts of a rank, one after another.
use Rattle.std.proofs.Common.{◌≡◌, ◌≢◌, ℕ, zero, suc, ◌+◌, ◌<◌, ◌≤◌, ◌==◌, if◌then◌else◌, MatchBool, Bool, true, false, cond, List, [], ◌∷◌, ◌++◌, Option, length, length-append, get_or, take, drop, arith, refl, sym, ap, ◌∙◌, inl, inr, append_assoc, subst, ◌*◌}
use Rattle.std.specs.List.{flat_map, onto_first}
use Rattle.std.proofs.lemmas.Bool.Decides.{eqb_tells, Decides-eqb}
use Rattle.std.proofs.lemmas.List.{append-nil}
use Rattle.shogi_board.specs.declared.kind.Piece.{Piece}
use Rattle.shogi_board.specs.Pieces.{is_promoted}
use Rattle.usi_text.specs.Letters.{piece_text, side_letter}
use Rattle.usi_text.specs.Boards.{Part, empty_squares, one_piece, IsPart, part_text, part_cells, SpellsCells, SpellsRanks, SpellsBoard, ranks_of}
use Rattle.usi_text.proofs.Spelt.{part_once}

slash_first : (x : ℕ) (xs : List ℕ) → x ≡ 47 → ranks_of (x ∷ xs) ≡ [] ∷ ranks_of xs
slash_first x xs h = rw h refl

other_first : (x : ℕ) (xs : List ℕ) → x ≢ 47 → ranks_of (x ∷ xs) ≡ onto_first x (ranks_of xs)
other_first x xs h =
    elim (eqb_tells x 47) [
      | inl same ↦ absurd (h same.1)
      | inr other ↦ ap (λ b. cond b ([] ∷ ranks_of xs) (onto_first x (ranks_of xs))) other.0
    ]

pub rank_first : (text : List ℕ) (n : ℕ) → n < length text → ((k : ℕ) → k < n → get_or text k 0 ≡ 47 → ⊥) → get_or text n 0 ≡ 47 → ranks_of text ≡ take n text ∷ ranks_of (drop (suc n) text)
rank_first [] n low run ends = absurd (omega arith)
rank_first (x ∷ xs) zero low run ends = slash_first x xs ends
rank_first (x ∷ xs) (suc n) low run ends =
    other_first x xs (run 0 (omega arith)) ∙ ap (onto_first x) (rank_first xs n (omega arith) (λ k h. run (suc k) (omega arith)) ends)

pub rank_alone : (text : List ℕ) → ((k : ℕ) → k < length text → get_or text k 0 ≡ 47 → ⊥) → ranks_of text ≡ text ∷ []
rank_alone [] run = refl
rank_alone (x ∷ xs) run =
    other_first x xs (run 0 (omega arith)) ∙ ap (onto_first x) (rank_alone xs (λ k h. run (suc k) (omega arith)))

abbrev Cells : Type 0
Cells = List (Option Piece)

longer : (b : Bool) (l : ℕ) (x : List ℕ) → 0 ≡ length ((if b then 43 ∷ l ∷ [] else l ∷ []) ++ x) → ⊥
longer true l x e = omega arith
longer false l x e = omega arith

piece_some : (p : Piece) (x : List ℕ) → 0 ≡ length (piece_text p ++ x) → ⊥
piece_some p x e = longer (is_promoted p.kind) (side_letter p) x e

pub part_some : (part : Part) (x : List ℕ) → [] ≡ part_text part ++ x → ⊥
part_some (empty_squares n) x e = cc
part_some (one_piece p) x e = let f = ap length e in absurd (piece_some p x f)

pub part_before : (part : Part) (following : List ℕ) (cells : Cells) → IsPart part → SpellsCells following cells → SpellsCells (part_text part ++ following) (part_cells part ++ cells)
part_before part following cells h (parts, each, text, spelt) =
    (part ∷ parts, (h, each), ap (λ t. part_text part ++ t) text, ap (λ c. part_cells part ++ c) spelt)

pub part_first : (part : Part) (following : List ℕ) (cells : Cells) → IsPart part → SpellsCells (part_text part ++ following) cells → (others : Cells) × SpellsCells following others × (cells ≡ part_cells part ++ others)
part_first part following cells h ([], each, text, spelt) = absurd (part_some part following (sym text))
part_first part following cells h (q ∷ parts, each, text, spelt) =
    let s = part_once part q following (flat_map part_text parts) h each.0 text in
    (flat_map part_cells parts, (parts, each.1, s.1, refl), spelt ∙ ap (λ p. part_cells p ++ flat_map part_cells parts) (sym s.0))

pub nothing_spelt : (cells : Cells) → SpellsCells [] cells → cells ≡ []
nothing_spelt cells ([], each, text, spelt) = spelt
nothing_spelt cells (q ∷ parts, each, text, spelt) = absurd (part_some q (flat_map part_text parts) text)

front_none : (rest : List ℕ) (cells : Cells) → (rest ≡ [] → ⊥) → ((part : Part) (following : List ℕ) → IsPart part → rest ≡ part_text part ++ following → ⊥) → SpellsCells rest cells → ⊥
front_none rest cells some none ([], each, text, spelt) = some text
front_none rest cells some none (q ∷ parts, each, text, spelt) = none q (flat_map part_text parts) each.0 text

-- a text spells one list of cells
pub cells_once : (text : List ℕ) (a b : Cells) → SpellsCells text a → SpellsCells text b → a ≡ b
cells_once text a b ([], each, whole, spelt) other =
    spelt ∙ sym (nothing_spelt b (subst (λ t. SpellsCells t b) whole other))
cells_once text a b (p ∷ parts, each, whole, spelt) other =
    let q = part_first p (flat_map part_text parts) b each.0 (subst (λ t. SpellsCells t b) whole other) in
    spelt ∙ (ap (λ c. part_cells p ++ c) (cells_once (flat_map part_text parts) (flat_map part_cells parts) q.0 (parts, each.1, refl, refl) q.1) ∙ sym q.2)

-- the text is read up to a rest, and the cells up to there were added
pub record Runs (text rest : List ℕ) (old items : Cells) : Type 0 where
  pub forward : (more : Cells) → SpellsCells rest more → (rank : Cells) × SpellsCells text rank × (old ++ rank ≡ items ++ more)
  pub backward : (rank : Cells) → SpellsCells text rank → (more : Cells) × SpellsCells rest more × (old ++ rank ≡ items ++ more)

pub runs_start : (text : List ℕ) (old : Cells) → Runs text text old old
runs_start text old = record { forward = λ more h. (more, h, refl); backward = λ rank h. (rank, h, refl) }

pub runs_more : (text rest following : List ℕ) (old items next : Cells) (part : Part) → Runs text rest old items → IsPart part → rest ≡ part_text part ++ following → next ≡ items ++ part_cells part → Runs text following old next
runs_more text rest following old items next part runs h e d = record {
  forward = λ more s.
      let r = runs.forward (part_cells part ++ more) (rw e (part_before part following more h s)) in
      (r.0, r.1, r.2 ∙ (sym (append_assoc items (part_cells part) more) ∙ ap (λ c. c ++ more) (sym d)));
  backward = λ rank s.
      let r = runs.backward rank s in
      let q = part_first part following r.0 h (rw e at r.1) in
      (q.0, q.1, r.2 ∙ (ap (λ c. items ++ c) q.2 ∙ (sym (append_assoc items (part_cells part) q.0) ∙ ap (λ c. c ++ q.0) (sym d))));
}

pub runs_no_part : (text rest : List ℕ) (old items : Cells) → Runs text rest old items → (rest ≡ [] → ⊥) → ((part : Part) (following : List ℕ) → IsPart part → rest ≡ part_text part ++ following → ⊥) → (rank : Cells) → SpellsCells text rank → ⊥
runs_no_part text rest old items runs some none rank s =
    let r = runs.backward rank s in
    front_none rest r.0 some none r.1

pub runs_too_many : (text rest following : List ℕ) (old items : Cells) (part : Part) → Runs text rest old items → IsPart part → rest ≡ part_text part ++ following → length old + 9 < length items + length (part_cells part) → (rank : Cells) → SpellsCells text rank → length rank ≡ 9 → ⊥
runs_too_many text rest following old items part runs h e many rank s nine =
    let r = runs.backward rank s in
    let q = part_first part following r.0 h (rw e at r.1) in
    let l = ap length r.2 in
    let k = ap length q.2 in
    omega (arith, length-append old rank, length-append items r.0, length-append (part_cells part) q.0, l, k)

pub runs_end : (text : List ℕ) (old items : Cells) → Runs text [] old items → length items ≡ length old + 9 → (rank : Cells) × SpellsCells text rank × (length rank ≡ 9) × (items ≡ old ++ rank)
runs_end text old items runs nine =
    let r = runs.forward [] ([], tt, refl, refl) in
    let whole : old ++ r.0 ≡ items = r.2 ∙ append-nil items in
    let l = ap length whole in
    (r.0, r.1, omega (arith, length-append old r.0, l), sym whole)

pub runs_short : (text : List ℕ) (old items : Cells) → Runs text [] old items → length items ≢ length old + 9 → (rank : Cells) → SpellsCells text rank → length rank ≡ 9 → ⊥
runs_short text old items runs other rank s nine =
    let r = runs.backward rank s in
    let none : r.0 ≡ [] = nothing_spelt r.0 r.1 in
    let whole : old ++ rank ≡ items = r.2 ∙ (ap (λ c. items ++ c) none ∙ append-nil items) in
    let l = ap length whole in
    other (omega (arith, length-append old rank, l))

rank_stated : (b : Bool) (text rest : List ℕ) (old items : Cells) → Runs text rest old items → rest ≡ [] → (b ≡ true → length items ≡ length old + 9) → (b ≡ false → length items ≢ length old + 9) → MatchBool b ((rank : Cells) × SpellsCells text rank × (length rank ≡ 9) × (items ≡ old ++ rank)) ((rank : Cells) → SpellsCells text rank → length rank ≡ 9 → ⊥)
rank_stated true text rest old items runs none whole short =
    let r : Runs text [] old items = rw none at runs in runs_end text old items r (whole refl)
rank_stated false text rest old items runs none whole short =
    let r : Runs text [] old items = rw none at runs in runs_short text old items r (short refl)

pub no_bytes : (xs : List ℕ) → length xs ≡ 0 → xs ≡ []
no_bytes [] h = refl
no_bytes (x ∷ xs) h = absurd (omega arith)

pub rank_read : (m n : ℕ) (text rest : List ℕ) (old items : Cells) → m ≡ length items → n ≡ length old → Runs text rest old items → length rest ≡ 0 → MatchBool (m == (n + 9)) ((rank : Cells) × SpellsCells text rank × (length rank ≡ 9) × (items ≡ old ++ rank)) ((rank : Cells) → SpellsCells text rank → length rank ≡ 9 → ⊥)
rank_read m n text rest old items h k runs none =
    rank_stated (m == (n + 9)) text rest old items runs (no_bytes rest none)
    (λ t. let e = (Decides-eqb m (n + 9)).0 t in omega arith)
    (λ f e. let d : m ≡ n + 9 = omega arith in let t = (Decides-eqb m (n + 9)).1 d in cc)

-- some ranks of a board have been read, and these cells added
pub record Boards (text : List ℕ) (rest : List (List ℕ)) (items : Cells) (n : ℕ) : Type 0 where
  pub forward : (more : Cells) → SpellsRanks rest more → SpellsRanks (ranks_of text) (items ++ more)
  pub backward : (cells : Cells) → SpellsRanks (ranks_of text) cells → (more : Cells) × SpellsRanks rest more × (cells ≡ items ++ more)
  pub count : length (ranks_of text) ≡ n + length rest
  pub size : length items ≡ 9 * n

pub boards_start : (text : List ℕ) → Boards text (ranks_of text) [] 0
boards_start text = record { forward = λ more h. h; backward = λ cells h. (cells, h, refl); count = omega arith; size = omega arith }

pub boards_more : (text : List ℕ) (rest following : List (List ℕ)) (rank : List ℕ) (items next cells : Cells) (n : ℕ) → Boards text rest items n → rest ≡ rank ∷ following → SpellsCells rank cells → length cells ≡ 9 → next ≡ items ++ cells → Boards text following next (n + 1)
boards_more text rest following rank items next cells n b e spelt nine d = record {
  forward = λ more s.
      let one : SpellsRanks rest (cells ++ more) = rw e (cells, more, refl, spelt, nine, s) in
      let all : SpellsRanks (ranks_of text) (items ++ (cells ++ more)) = b.forward (cells ++ more) one in
      rw (d, append_assoc) all;
  backward = λ all s.
      let r = b.backward all s in
      let q : SpellsRanks (rank ∷ following) r.0 = rw e at r.1 in
      let same : q.0 ≡ cells = cells_once rank q.0 cells q.3 spelt in
      (q.1, q.5, r.2 ∙ (ap (λ c. items ++ c) q.2 ∙ (ap (λ c. items ++ (c ++ q.1)) same ∙ (sym (append_assoc items cells q.1) ∙ ap (λ c. c ++ q.1) (sym d)))));
  count = let l = ap length e in omega (arith, b.count, l);
  size = let l = ap length d in omega (arith, b.size, l, length-append items cells);
}

pub boards_bad_rank : (text : List ℕ) (rest following : List (List ℕ)) (rank : List ℕ) (items : Cells) (n : ℕ) → Boards text rest items n → rest ≡ rank ∷ following → ((cells : Cells) → SpellsCells rank cells → length cells ≡ 9 → ⊥) → (cells : Cells) → SpellsBoard text cells → ⊥
boards_bad_rank text rest following rank items n b e none cells s =
    let r = b.backward cells s.1 in
    let q : SpellsRanks (rank ∷ following) r.0 = rw e at r.1 in
    none q.0 q.3 q.4

pub boards_few : (text : List ℕ) (items : Cells) (n : ℕ) → Boards text [] items n → n < 9 → (cells : Cells) → SpellsBoard text cells → ⊥
boards_few text items n b few cells s = omega (arith, b.count, s.0)

split_some : (b : Bool) (x : ℕ) (parts : List (List ℕ)) → 1 ≤ length (cond b ([] ∷ parts) (onto_first x parts))
split_some true x parts = omega arith
split_some false x [] = omega arith
split_some false x (p ∷ ps) = omega arith

some_rank : (text : List ℕ) → 1 ≤ length (ranks_of text)
some_rank [] = omega arith
some_rank (x ∷ xs) = split_some (x == 47) x (ranks_of xs)

pub boards_many : (text rest : List ℕ) (items : Cells) → Boards text (ranks_of rest) items 9 → (cells : Cells) → SpellsBoard text cells → ⊥
boards_many text rest items b cells s = omega (arith, b.count, s.0, some_rank rest)

pub boards_end : (text : List ℕ) (items : Cells) → Boards text [] items 9 → SpellsBoard text items
boards_end text items b =
    let s = b.forward [] refl in
    (b.count, rw append-nil at s)

pub empty_is : (b : Bool) (n : ℕ) → b ≡ (n == 0) → b ≡ true → n ≡ 0
empty_is b n e t = (Decides-eqb n 0).0 (sym e ∙ t)

pub some_are : (b : Bool) (xs : List ℕ) → b ≡ (length xs == 0) → b ≡ false → xs ≡ [] → ⊥
some_are b xs e f h = let t : (length xs == 0) ≡ true = rw h refl in cc
