-- Where a statement's bytes lie.
use Rattle.std.proofs.Common.{◌≡◌, ℕ, ◌+◌, ◌-◌, ◌<◌, ◌≤◌, ◌==◌, false, List, [], ◌∷◌, length, Option, Some, None, IfSome, arith, refl, sym, ap, ◌∙◌}
use Rattle.std.proofs.lemmas.Bool.{false≢true}
use Rattle.csa_cutting.specs.Places.{kept_of}
use Rattle.csa_cutting.specs.declared.cutter.Statement.{Statement}
use Rattle.csa_cutting.specs.declared.units.Origin.{Origin}
use Rattle.csa_cutting.specs.declared.units.Origin.TheVariants.{EarlierPiece, ThisPiece}

pub lent_here : (statement : Option Statement) (n offset fed start : ℕ) (base : ℕ × ℕ) → offset ≡ fed + start → IfSome statement (λ s. (s.number ≡ n) × (s.offset ≡ offset)) → IfSome statement (λ s. s.bytes.ref_ptr ≡ (base.0, start + base.1)) → IfSome statement (λ s. fed ≤ s.offset → s.bytes.ref_ptr ≡ (base.0, base.1 + (s.offset - fed)))
lent_here None n offset fed start base e stated lent = tt
lent_here (Some s) n offset fed start base e stated lent =
    let k : start + base.1 ≡ base.1 + (s.offset - fed) = omega (arith, stated.1, e) in
    λ _. lent ∙ ap (λ i. (base.0, i)) k

pub lent_before : (statement : Option Statement) (n offset fed : ℕ) (base : ℕ × ℕ) → offset < fed → IfSome statement (λ s. (s.number ≡ n) × (s.offset ≡ offset)) → IfSome statement (λ s. fed ≤ s.offset → s.bytes.ref_ptr ≡ (base.0, base.1 + (s.offset - fed)))
lent_before None n offset fed base e stated = tt
lent_before (Some s) n offset fed base e stated = λ le. absurd (omega (arith, stated.1, e, le))

pub kept_on : (origin : Origin) (held left : List ℕ) → left ≡ kept_of origin held → (length left == 0) ≡ false → (origin ≡ EarlierPiece) × (0 < length (kept_of origin held))
kept_on EarlierPiece held [] same some = absurd (false≢true (sym some))
kept_on EarlierPiece held (x ∷ xs) same some = (refl, rw (← same) (omega arith))
kept_on ThisPiece held [] same some = absurd (false≢true (sym some))
kept_on ThisPiece held (x ∷ xs) same some = let n : length (x ∷ xs) ≡ 0 = ap length same in absurd (omega (arith, n))
