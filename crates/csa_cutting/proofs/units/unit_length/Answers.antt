use Rattle.std.proofs.Common.{◌≡◌, ℕ, List, Bool, true, false, [], ◌∷◌, refl, rules, sym, ◌∙◌}
use Rattle.std.specs.Prelude.{◌==◌, ◌||◌, ◌&&◌}
use Rattle.std.specs.List.{position_or_len}
use Rattle.std.proofs.lemmas.List.Sums.{position_or_len_is}
use Rattle.csa_cutting.specs.Cut.{is_end, takes_line}
use Rattle.csa_cutting.specs.Lines.{is_line_end}
use Rattle.csa_cutting.proofs.Fronts.{turned_true, turned_false}
use Rattle.csa_cutting.proofs.units.unit_length.Goals as goal

without_comma : (cr lf comma : Bool) → cr || lf ≡ cr || lf || (comma && false)
without_comma true lf comma = refl
without_comma false true comma = refl
without_comma false false true = refl
without_comma false false false = refl

-- if a unit takes its whole line, only a line end ends it
ends_alike : (first b : ℕ) → takes_line first ≡ true → is_line_end b ≡ is_end first b
ends_alike first b h = rw h (without_comma (b == 13) (b == 10) (b == 44))

lengths_alike : (first : ℕ) (text : List ℕ) → takes_line first ≡ true → position_or_len is_line_end text ≡ position_or_len (is_end first) text
lengths_alike first [] h = refl
lengths_alike first (b ∷ bs) h = rw (← ends_alike first b h, lengths_alike first bs h) refl

pub returns-then-takes_line-clause-value : goal.returns-then-takes_line-clause-value
returns-then-takes_line-clause-value c =
    c.line_length.ensures.value ∙ lengths_alike c.args.first c.args.text.now (sym c.takes_line.ensures ∙ c.if-takes_line.true)

pub returns-then-first-eq-TIME-clause-value : goal.returns-then-first-eq-TIME-clause-value
returns-then-first-eq-TIME-clause-value c =
    sym (position_or_len_is (is_end c.args.first) c.args.text.now c.front_length.result 0 c.front_length.ensures.within (λ k h. turned_true _ (search rules)) (λ h. turned_false _ (search rules)))

pub returns-else-first-eq-TIME-clause-value : goal.returns-else-first-eq-TIME-clause-value
returns-else-first-eq-TIME-clause-value c = c.plain_length.ensures.value c.args.first (sym c.takes_line.ensures ∙ c.if-takes_line.false)
