-- A statement without separators at the front of a piece.
use Rattle.std.proofs.Common.{◌≡◌, ℕ, ◌+◌, ◌-◌, ◌==◌, ◌<◌, ◌≤◌, ◌||◌, Bool, true, false, List, [], ◌∷◌, ◌++◌, length, take, drop, get_or, slice_range, Option, Some, None, Ok, is_some, arith, refl, sym, ap, ◌∙◌, subst, inl, inr}
use Rattle.std.specs.List.{AllByRecursion}
use Rattle.std.proofs.lemmas.Bool.{cases_Bool}
use Rattle.std.proofs.Math.Seq.{drop-cons}
use Rattle.csa_cutting.specs.Cut.{IsUnit, is_separator, is_end, is_blank, takes_line, begins_with, before_kept, without_last_blanks, statement_bytes}
use Rattle.csa_cutting.specs.PieceCutting.{PieceCutting}
use Rattle.csa_cutting.specs.PieceSteps.{IsWord, Stepped}
use Rattle.csa_cutting.specs.Places.{IsPart, open_of}
use Rattle.csa_cutting.specs.declared.units.Origin.TheVariants.{ThisPiece}
use Rattle.csa_cutting.specs.declared.cutter.Statement.{Statement}
use Rattle.csa_cutting.specs.declared.units.Place.{Place}
use Rattle.csa_cutting.specs.declared.units.Place.TheVariants.{Gap}
use Rattle.csa_cutting.proofs.Blanks.{either_way}
use Rattle.csa_cutting.proofs.Finding.{first_range, passes_open}
use Rattle.csa_cutting.proofs.Fronts.{weaker}
use Rattle.csa_cutting.proofs.Holding.{holds_here}
use Rattle.csa_cutting.proofs.Leading.{seen, end_step, end_separates}

no_end : (first b : ℕ) → is_separator b ≡ false → is_end first b ≡ false
no_end first b h =
    elim (cases_Bool (is_end first b)) [
      | inl ends ↦ let separates = end_separates first b ends in absurd (cc)
      | inr goes_on ↦ goes_on
    ]

none_of_five : (x y z w v : Bool) → (x || y || z || w || v) ≡ false → (w || v) ≡ false
none_of_five true y z w v h = cc
none_of_five false true z w v h = cc
none_of_five false false true w v h = cc
none_of_five false false false w v h = h

no_blank : (b : ℕ) → is_separator b ≡ false → is_blank b ≡ false
no_blank b h = none_of_five (b == 13) (b == 10) (b == 44) (b == 32) (b == 9) h

first_of_three : (x y z : Bool) → (x || y || z) ≡ false → x ≡ false
first_of_three true y z h = cc
first_of_three false y z h = refl

kept_before : (b : ℕ) (bs : List ℕ) → is_blank b ≡ false → before_kept b bs ≡ b ∷ bs
kept_before b [] h = rw h refl
kept_before b (c ∷ cs) h = refl

no_blanks : (bytes : List ℕ) → AllByRecursion (λ b. is_separator b ≡ false) bytes → without_last_blanks bytes ≡ bytes
no_blanks [] h = refl
no_blanks (b ∷ bs) h = ap (before_kept b) (no_blanks bs h.1) ∙ kept_before b bs (no_blank b h.0)

-- what a word is, before a byte that ends a statement
record IsWhole (word following : List ℕ) : Type 0 where
  unit : IsUnit word following
  spoken : begins_with 39 word ≡ false
  bytes : statement_bytes word ≡ word

word_whole : (word following : List ℕ) (b : ℕ) (rest : List ℕ) → IsWord word → following ≡ b ∷ rest → ((first : ℕ) → takes_line first ≡ false → is_end first b ≡ true) → IsWhole word following
word_whole [] following b rest w e ends = absurd w
word_whole (first ∷ bytes) following b rest w e ends =
    let word : List ℕ = first ∷ bytes in
    record {
      unit = (w.1.0, weaker (λ c. is_separator c ≡ false) (λ c. is_end first c ≡ false) (no_end first) bytes w.1.1, rw e (ends first w.0));
      spoken = first_of_three (first == 39) (first == 78) (first == 36) w.0;
      bytes = sym (either_way (begins_with 78 word || begins_with 36 word) word (without_last_blanks word) (no_blanks word w.1));
    }

word_part : (held piece : List ℕ) (size : ℕ) → size < length piece → IsWhole (take size piece) (drop size piece) → IsPart Gap held piece 0 ThisPiece 0 size
word_part held piece size less w =
    record {
      order = omega arith;
      first = λ e. cc;
      unit = record {
        order = omega arith;
        within = omega arith;
        unit = rw (first_range piece size) w.unit;
        spoken = rw (first_range piece size) w.spoken;
      };
      passed = passes_open Gap held (slice_range piece 0 (size + 1)) (λ more. refl);
    }

pub none_of : (o : Option ℕ) → is_some o ≡ false → o ≡ None
none_of None h = refl
none_of (Some n) h = cc

-- the word at the front of the piece is cut as `step` would cut it
pub word_stepped : (now : PieceCutting) (place : Place) (held other piece : List ℕ) (size fed number : ℕ) (refused : Option ℕ) (s : Statement) → seen place held fed number refused ≡ now → place ≡ Gap → refused ≡ None → length (open_of place held) ≤ fed → other ≡ [] → size < length piece → size ≤ 4096 → IsWord (take size piece)
    → ((first : ℕ) → takes_line first ≡ false → is_end first (get_or piece size 0) ≡ true) → s.number ≡ number + 1 → s.offset ≡ fed → s.bytes.now ≡ take size piece
    → Stepped now piece (Ok (record { used = size + 1; statement = Some s })) (seen place other (fed + (size + 1)) (number + 1) refused)
word_stepped now place held other piece size fed number refused s view gap none few clear less short word ends number_is offset_is bytes =
    let whole = word_whole (take size piece) (drop size piece) (get_or piece size 0) _ word (drop-cons piece size 0 less) ends in
    let part : IsPart place held piece 0 ThisPiece 0 size = rw gap (word_part held piece size less whole) in
    let stated : (s.number ≡ number + 1) × (s.offset ≡ fed + 0 - 0) × (s.bytes.now ≡ statement_bytes ([] ++ slice_range piece 0 size)) =
    (number_is, omega (arith, offset_is), bytes ∙ sym whole.bytes ∙ ap statement_bytes (sym (first_range piece size))) in
    let done = end_step now place held other piece ThisPiece 0 size fed number (size + 1) refused (Some s) view none part few less (omega arith) refl refl stated in
    let fed_is : now.fed ≡ fed = ap (λ (v : PieceCutting). v.fed) (sym view) in
    let kept = holds_here now (seen Gap other (fed + (size + 1)) (number + 1) refused) (Some s) (number + 1) fed clear (omega (arith, fed_is)) (number_is, offset_is) refl in
    subst (λ after. Stepped now piece (Ok (record { used = size + 1; statement = Some s })) (seen after other (fed + (size + 1)) (number + 1) refused)) (sym gap)
    (record { going = done.0; number_is = tt; place = tt; after = record { led = done.1; held = kept; refused = tt } })
