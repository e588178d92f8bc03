use Rattle.std.proofs.Common.{◌≡◌, ℕ, List, Bool, true, false, [], ◌∷◌, refl, ◌∙◌, arith}
use Rattle.std.specs.Prelude.{◌==◌, ◌||◌, ◌&&◌}
use Rattle.std.specs.List.{position_or_len}
use Rattle.memchr.specs.Find.{is_byte3}
use Rattle.csa_cutting.specs.Cut.{is_end, takes_line}
use Rattle.csa_cutting.proofs.Places.{first_or_all, within_text}
use Rattle.csa_cutting.proofs.units.plain_length.Goals as goal

with_comma : (cr lf comma : Bool) → cr || lf || comma ≡ cr || lf || (comma && true)
with_comma true lf comma = refl
with_comma false true comma = refl
with_comma false false true = refl
with_comma false false false = refl

-- if a unit does not take its whole line, a comma ends it too
ends_alike : (first b : ℕ) → takes_line first ≡ false → is_byte3 13 10 44 b ≡ is_end first b
ends_alike first b h = rw h (with_comma (b == 13) (b == 10) (b == 44))

plain_alike : (first : ℕ) (text : List ℕ) → takes_line first ≡ false → position_or_len (is_byte3 13 10 44) text ≡ position_or_len (is_end first) text
plain_alike first [] h = refl
plain_alike first (b ∷ bs) h = rw (← ends_alike first b h, plain_alike first bs h) refl

-- whatever bytes are searched for, if they are CR, LF and comma
needles_alike : (cr lf comma first : ℕ) (text : List ℕ) → cr ≡ 13 → lf ≡ 10 → comma ≡ 44 → takes_line first ≡ false
    → position_or_len (is_byte3 cr lf comma) text ≡ position_or_len (is_end first) text
needles_alike cr lf comma first text is_cr is_lf is_comma h = rw (is_cr, is_lf, is_comma) (plain_alike first text h)

pub returns-clause-value : goal.returns-clause-value
returns-clause-value c = λ first plain.
    c.unwrap_or.ensures ∙ first_or_all (is_byte3 _ _ _) c.args.text.now c.memchr3_iter.result c.next.new.self c.next.result c.memchr3_iter.ensures.value c.next.ensures.steps
    ∙ needles_alike _ _ _ first c.args.text.now (omega arith) (omega arith) (omega arith) plain

pub returns-clause-within : goal.returns-clause-within
returns-clause-within c =
    omega (arith, c.unwrap_or.ensures, within_text (is_byte3 _ _ _) c.args.text.now c.memchr3_iter.result c.next.new.self c.next.result c.memchr3_iter.ensures.value c.next.ensures.steps)
