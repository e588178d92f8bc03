use Rattle.std.proofs.Common.{◌≡◌, ℕ, List, [], ◌∷◌, ◌++◌, ◌∙◌, ap, append_assoc}
use Rattle.csa_text.proofs.time.write_any_time.Goals as goal

joined : (old p e r d t : List ℕ) → p ≡ old ++ 84 ∷ [] → e ≡ p ++ d → r ≡ e ++ t → r ≡ old ++ 84 ∷ (d ++ t)
joined old p e r d t a b g =
    g ∙ (ap (λ l. l ++ t) (b ∙ ap (λ l. l ++ d) a)
    ∙ (append_assoc (old ++ 84 ∷ []) d t ∙ append_assoc old (84 ∷ []) (d ++ t)))

pub returns : goal.returns
returns c =
    joined c.args.out.now.items c.push.new.self.items c.extend_from_slice.new.self.items c.write_fraction.new.out.items _ _
    c.in_ok-push.ensures.items (c.in_ok-extend_from_slice.ensures.items ∙ ap (λ b. c.push.new.self.items ++ b) (c.as_bytes.ensures.value ∙ c.format.ensures.text))
    c.in_ok-write_fraction.ensures
