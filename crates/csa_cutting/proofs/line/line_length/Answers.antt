use Rattle.std.proofs.Common.{◌≡◌, ℕ, List, refl, ◌∙◌, arith}
use Rattle.std.specs.List.{position_or_len}
use Rattle.memchr.specs.Find.{is_byte2}
use Rattle.csa_cutting.specs.Lines.{is_line_end}
use Rattle.csa_cutting.proofs.Places.{first_or_all, within_text}
use Rattle.csa_cutting.proofs.line.line_length.Goals as goal

-- whatever bytes are searched for, if they are CR and LF
needles_alike : (cr lf : ℕ) (text : List ℕ) → cr ≡ 13 → lf ≡ 10 → position_or_len (is_byte2 cr lf) text ≡ position_or_len is_line_end text
needles_alike cr lf text is_cr is_lf = rw (is_cr, is_lf) refl

pub returns-clause-value : goal.returns-clause-value
returns-clause-value c =
    c.unwrap_or.ensures ∙ first_or_all (is_byte2 _ _) c.args.text.now c.memchr2_iter.result c.next.new.self c.next.result c.memchr2_iter.ensures.value c.next.ensures.steps
    ∙ needles_alike _ _ c.args.text.now (omega arith) (omega arith)

pub returns-clause-within : goal.returns-clause-within
returns-clause-within c =
    omega (arith, c.unwrap_or.ensures, within_text (is_byte2 _ _) c.args.text.now c.memchr2_iter.result c.next.new.self c.next.result c.memchr2_iter.ensures.value c.next.ensures.steps)
