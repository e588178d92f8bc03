-- A text is cut in one way, and the bytes of a statement have one meaning.
use Rattle.std.proofs.Common.{◌≡◌, ℕ, ◌+◌, Bool, true, false, List, [], ◌∷◌, ◌++◌, filter, length, drop, refl, sym, ap, ◌∙◌}
use Rattle.std.specs.List.{AllByRecursion}
use Rattle.csa_cutting.specs.Cut.{TextUnit, IsNext, IsGap, IsUnit, EndsBefore, Units, Statements, IsCut, is_statement, is_separator, is_end, mark_length}
use Rattle.csa_cutting.proofs.Runs.{found}

-- the list is at its end, or its first element gives another answer
abbrev pub Stops : (ℕ → Bool) → Bool → List ℕ → Type 0
Stops p v [] = Unit {0}
Stops p v (b ∷ bs) = p b ≡ v → ⊥

-- the longest front with one answer to a test is unique, and so is what follows it
pub same_front : (p : ℕ → Bool) (v : Bool) (a b x y : List ℕ) → AllByRecursion (λ n. p n ≡ v) a → AllByRecursion (λ n. p n ≡ v) b → Stops p v x → Stops p v y → a ++ x ≡ b ++ y → (a ≡ b) × (x ≡ y)
same_front p v [] [] x y f g s t e = (refl, e)
same_front p v [] (b ∷ bs) [] y f g s t e = cc
same_front p v [] (b ∷ bs) (c ∷ cs) y f g s t e = let same : c ≡ b = cc in absurd (s (ap p same ∙ g.0))
same_front p v (a ∷ os) [] x [] f g s t e = cc
same_front p v (a ∷ os) [] x (c ∷ cs) f g s t e = let same : c ≡ a = cc in absurd (t (ap p same ∙ f.0))
same_front p v (a ∷ os) (b ∷ bs) x y f g s t e =
    let head : a ≡ b = cc in
    let rest : os ++ x ≡ bs ++ y = cc in
    let more = same_front p v os bs x y f.1 g.1 s t rest in
    (ap (λ n. n ∷ os) head ∙ ap (λ ns. b ∷ ns) more.0, more.1)

solid : (first : ℕ) → is_separator first ≡ false → is_separator first ≡ true → ⊥
solid first h k = cc

ending : (first b : ℕ) → is_end first b ≡ true → is_end first b ≡ false → ⊥
ending first b h k = cc

unit_begins : (unit following : List ℕ) → IsUnit unit following → Stops is_separator true (unit ++ following)
unit_begins [] following h = absurd h
unit_begins (first ∷ bytes) following h = solid first h.0

ends_stop : (first : ℕ) (following : List ℕ) → EndsBefore first following → Stops (is_end first) false following
ends_stop first [] h = tt
ends_stop first (b ∷ bs) h = ending first b h

same_unit : (a b x y : List ℕ) → IsUnit a x → IsUnit b y → a ++ x ≡ b ++ y → (a ≡ b) × (x ≡ y)
same_unit [] b x y f g e = absurd f
same_unit (first ∷ os) [] x y f g e = absurd g
same_unit (first ∷ os) (other ∷ bs) x y f g e =
    let head : first ≡ other = cc in
    let rest : os ++ x ≡ bs ++ y = cc in
    let fits : AllByRecursion (λ n. is_end first n ≡ false) bs = rw head g.1 in
    let stops : EndsBefore first y = rw head g.2 in
    let more = same_front (is_end first) false os bs x y f.1 fits (ends_stop first x f.2) (ends_stop first y stops) rest in
    (ap (λ n. n ∷ os) head ∙ ap (λ ns. other ∷ ns) more.0, more.1)

same_text_unit : (u v : TextUnit) → u.offset ≡ v.offset → u.bytes ≡ v.bytes → u ≡ v
same_text_unit u v h k =
    let first : u ≡ record { offset = v.offset; bytes = u.bytes } = ap (λ (n : ℕ). record u { offset = n }) h in
    first ∙ ap (λ (bs : List ℕ). record v { bytes = bs }) k

next_once : (offset : ℕ) (text : List ℕ) (u v : TextUnit) (x y : List ℕ) → IsNext offset text u x → IsNext offset text v y → (u ≡ v) × (x ≡ y)
next_once offset text u v x y p q =
    let gaps = same_front is_separator true p.gap q.gap (u.bytes ++ x) (v.bytes ++ y) p.separators q.separators
    (unit_begins u.bytes x p.unit) (unit_begins v.bytes y q.unit) (sym p.whole ∙ q.whole) in
    let units = same_unit u.bytes v.bytes x y p.unit q.unit gaps.1 in
    (same_text_unit u v (p.place ∙ ap (λ (g : List ℕ). offset + length g) gaps.0 ∙ sym q.place) units.0, units.1)

gap_has_no_unit : (gap unit following : List ℕ) → IsUnit unit following → IsGap (gap ++ (unit ++ following)) → ⊥
gap_has_no_unit [] [] following h g = absurd h
gap_has_no_unit [] (first ∷ bytes) following h g = solid first h.0 g.0
gap_has_no_unit (b ∷ gap) unit following h g = gap_has_no_unit gap unit following h g.1

no_next : (offset : ℕ) (text : List ℕ) (u : TextUnit) (following : List ℕ) → IsGap text → IsNext offset text u following → ⊥
no_next offset text u following gap next = gap_has_no_unit next.gap u.bytes following next.unit (rw (← next.whole) gap)

pub units_once : (offset : ℕ) (text : List ℕ) (us vs : List TextUnit) → Units offset text us → Units offset text vs → us ≡ vs
units_once offset text [] [] p q = refl
units_once offset text [] (v ∷ vs) p q = absurd (no_next offset text v q.0 p q.1)
units_once offset text (u ∷ us) [] p q = absurd (no_next offset text u p.0 q p.1)
units_once offset text (u ∷ us) (v ∷ vs) p q =
    let same = next_once offset text u v p.0 q.0 p.1 q.1 in
    let rest : Units (u.offset + length u.bytes) p.0 vs = rw (same.0, same.1) q.2 in
    ap (λ (w : TextUnit). w ∷ us) same.0 ∙ ap (λ (ws : List TextUnit). v ∷ ws) (units_once (u.offset + length u.bytes) p.0 us vs p.2 rest)

pub statements_once : (offset : ℕ) (text : List ℕ) (a b : List TextUnit) → Statements offset text a → Statements offset text b → a ≡ b
statements_once offset text a b p q =
    p.kept ∙ ap (filter is_statement) (units_once offset text p.units q.units p.cut q.cut) ∙ sym q.kept

pub cut_found : (source : List ℕ) → (statements : List TextUnit) × IsCut source statements
cut_found source = found (mark_length source) (drop (mark_length source) source)
