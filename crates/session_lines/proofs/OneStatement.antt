-- A line with one statement, as a cutter finds it.
use Rattle.std.proofs.Common.{◌≡◌, ℕ, List, [], ◌∷◌, length, drop, arith, refl, sym, ap, subst, ◌∙◌}
use Rattle.csa_cutting.proofs.Once.{statements_once}
use Rattle.csa_cutting.proofs.Runs.{found}
use Rattle.csa_cutting.proofs.Spoken.{stated_first}
use Rattle.csa_cutting.proofs.WholeRuns.{whole_cut}
use Rattle.csa_cutting.specs.Cut.{TextUnit, IsCut, Statements, mark_length, statement_bytes}
use Rattle.csa_cutting.specs.Cutting.{Cutting, ToCome, IsFirstStatement, IsHandedOut, IsTooLong, unit_between}
use Rattle.csa_cutting.specs.declared.cutter.Statement.{Statement}
use Rattle.csa_cutting.specs.WholeRun.{AreNumbered}
use Rattle.session_lines.specs.MoveLines.{IsAlone}

-- a cutter at the start of the line
pub record AtStart (line : List ℕ) (c : Cutting) : Type 0 where
  pub source : c.source ≡ line
  pub at : c.at ≡ mark_length line
  pub number : c.number ≡ 0

pub whole : (line : List ℕ) (c : Cutting) (us : List TextUnit) → AtStart line c → ToCome c us → IsCut line us
whole line c us s h =
    subst (λ n. Statements n (drop n line) us) s.at (subst (λ x. Statements c.at (drop c.at x) us) s.source h)

one_unit : (line : List ℕ) (us : List TextUnit) (u : TextUnit) → IsCut line us → IsAlone line u → us ≡ u ∷ []
one_unit line us u cut alone = statements_once _ _ us (u ∷ []) cut alone.0

pub no_statement : (line : List ℕ) (c : Cutting) → AtStart line c → ToCome c [] → (u : TextUnit) → IsAlone line u → ⊥
no_statement line c s h u alone =
    let e = ap length (one_unit line [] u (whole line c [] s h) alone) in
    absurd (omega (arith, e))

first_unit : (a b : TextUnit) (xs ys : List TextUnit) → a ∷ xs ≡ b ∷ ys → a ≡ b
first_unit a b xs ys e = cc

pub long_statement : (line : List ℕ) (c : Cutting) (number offset : ℕ) → AtStart line c → IsTooLong c number offset → (u : TextUnit) → IsAlone line u → ⊥
long_statement line c number offset s h u alone =
    let e = first_unit h.unit u h.others [] (one_unit line (h.unit ∷ h.others) u (whole line c (h.unit ∷ h.others) s h.first) alone) in
    let l = ap (λ (x : TextUnit). length x.bytes) e in
    let long = h.long in
    let short = alone.1 in
    absurd (omega (arith, l, long, short))

-- a line in which others follow the first statement
two_units : (line : List ℕ) (c d : Cutting) (offset : ℕ) (v : TextUnit) (vs : List TextUnit)
    → AtStart line c → d.source ≡ c.source → IsFirstStatement c.source c.at offset d.at → ToCome d (v ∷ vs)
    → (u : TextUnit) → IsAlone line u → ⊥
two_units line c d offset v vs s same first rest u alone =
    let there : Statements d.at (drop d.at c.source) (v ∷ vs) = subst (λ x. Statements d.at (drop d.at x) (v ∷ vs)) same rest in
    let all = stated_first c.source c.at offset d.at (v ∷ vs) first there in
    let e = ap length (one_unit line (unit_between c.source offset d.at ∷ v ∷ vs) u (whole line c (unit_between c.source offset d.at ∷ v ∷ vs) s all) alone) in
    absurd (omega (arith, e))

pub another_statement : (line : List ℕ) (c d : Cutting) (offset next end : ℕ)
    → AtStart line c → d.source ≡ c.source → IsFirstStatement c.source c.at offset d.at → IsFirstStatement d.source d.at next end
    → (u : TextUnit) → IsAlone line u → ⊥
another_statement line c d offset next end s same first second u alone =
    let rest = found end (drop end d.source) in
    two_units line c d offset (unit_between d.source next end) rest.0 s same first (stated_first d.source d.at next end rest.0 second rest.1) u alone

pub long_after : (line : List ℕ) (c d : Cutting) (offset number place : ℕ)
    → AtStart line c → d.source ≡ c.source → IsFirstStatement c.source c.at offset d.at → IsTooLong d number place
    → (u : TextUnit) → IsAlone line u → ⊥
long_after line c d offset number place s same first h u alone = two_units line c d offset h.unit h.others s same first h.first u alone

one_of : (line : List ℕ) (s : Statement) (us : List TextUnit) → IsCut line us → AreNumbered 0 us (s ∷ [])
    → (u : TextUnit) × IsAlone line u × (s.bytes.now ≡ statement_bytes u.bytes)
one_of line s [] cut h = absurd h
one_of line s (u ∷ []) cut h = (u, (cut, h.0.short), h.0.slice)
one_of line s (u ∷ v ∷ us) cut h = absurd h.1

pub only_one : (line : List ℕ) (c d : Cutting) (s : Statement) → AtStart line c → d.source ≡ c.source
    → IsHandedOut c d s.number s.offset s.bytes.now → ToCome d []
    → (u : TextUnit) × IsAlone line u × (s.bytes.now ≡ statement_bytes u.bytes)
only_one line c d s start same out rest =
    let at : c.at ≡ mark_length c.source = start.at ∙ ap mark_length (sym start.source) in
    let all = whole_cut (s ∷ []) c d at start.number (d, same, out, refl) rest in
    one_of line s all.0 (subst (λ l. IsCut l all.0) start.source all.1) all.2
