-- The host and the port of an address.
use Rattle.std.proofs.Common.{◌≡◌, ◌≢◌, ◌↔◌, ◌++◌, ◌∷◌, [], ◌∙◌, ◌<◌, ◌==◌, ℕ, suc, Bool, false, not, List, Option, None, Some, IsTrue, MatchOption, arith, ap, drop, get_or, length, refl, subst, sym}
use Rattle.std.proofs.lemmas.Bool.Decides.{nat_tests}
use Rattle.std.proofs.lemmas.Fmt.{decimal_is_IsNumeral}
use Rattle.std.proofs.lemmas.Str.Parse.{digit_from_value}
use Rattle.std.proofs.lemmas.Str.Pattern.{NoCharPasses-char}
use Rattle.std.specs.Fmt.{decimal}
use Rattle.std.specs.List.{AllByRecursion}
use Rattle.std.specs.Option.{is_some}
use Rattle.std.specs.Str.Parse.{AllDigits}
use Rattle.std.specs.Str.Pattern.{RFindsChar, SplitsAroundMatch}
use Rattle.session_setup.proofs.Replacing.{split_at_char}
use Rattle.session_setup.specs.Ports.{IsPort}

holds : (c : ℕ) (bs y : List ℕ) → AllByRecursion (λ b. b ≢ c) (bs ++ c ∷ y) → ⊥
holds c [] y none = none.0 refl
holds c (b ∷ bs) y none = holds c bs y none.1

-- a text is cut at the last of a byte in one way
last_once : (c : ℕ) (a b x y : List ℕ) → AllByRecursion (λ t. t ≢ c) x → AllByRecursion (λ t. t ≢ c) y
    → a ++ c ∷ x ≡ b ++ c ∷ y → (a ≡ b) × (x ≡ y)
last_once c [] [] x y none_x none_y same = (refl, cc)
last_once c [] (b ∷ bs) x y none_x none_y same =
    let rest : x ≡ bs ++ c ∷ y = cc in
    absurd (holds c bs y (subst (AllByRecursion (λ t. t ≢ c)) rest none_x))
last_once c (a ∷ front) [] x y none_x none_y same =
    let rest : front ++ c ∷ x ≡ y = cc in
    absurd (holds c front x (subst (AllByRecursion (λ t. t ≢ c)) (sym rest) none_y))
last_once c (a ∷ front) (b ∷ bs) x y none_x none_y same =
    let first : a ≡ b = cc in
    let rest : front ++ c ∷ x ≡ bs ++ c ∷ y = cc in
    let both = last_once c front bs x y none_x none_y rest in
    let fronts = both.0 in
    (cc, both.1)

all_each : (c : ℕ) (xs : List ℕ) → ((i : ℕ) → i < length xs → get_or xs i 0 ≢ c) → AllByRecursion (λ b. b ≢ c) xs
all_each c [] h = tt
all_each c (x ∷ xs) h = (h 0 (omega arith), all_each c xs (λ i less. h (suc i) (omega arith)))

digits_only : (ds : List ℕ) → AllDigits 10 ds → AllByRecursion (λ b. b ≢ 58) ds
digits_only [] h = tt
digits_only (d ∷ ds) h =
    let range = digit_from_value d h.0 in
    (λ is. absurd (omega (arith, range.0, range.1, is)), digits_only ds h.1)

after_last : (text host port : List ℕ) → SplitsAroundMatch (RFindsChar 58) text host port → AllByRecursion (λ b. b ≢ 58) port
after_last text host port h =
    subst (AllByRecursion (λ b. b ≢ 58)) (sym h.4) (all_each 58 (drop h.1 text) (λ i l. NoCharPasses-char 58 (drop h.1 text) i h.2.0 (omega arith) l))

-- no address without a colon has a port
pub no_colon : (text host : List ℕ) (port : ℕ) → RFindsChar 58 text None → text ≡ host ++ 58 ∷ decimal port → ⊥
no_colon text host port none is =
    holds 58 host (decimal port) (subst (AllByRecursion (λ b. b ≢ 58)) is (all_each 58 text (λ i l. NoCharPasses-char 58 text i none (omega arith) l)))

-- the host and the port are what comes before and after the last colon
pub cut_once : (text front back host : List ℕ) (port : ℕ) → SplitsAroundMatch (RFindsChar 58) text front back → IsPort port → text ≡ host ++ 58 ∷ decimal port
    → (host ≡ front) × (decimal port ≡ back)
cut_once text front back host port h small is =
    last_once 58 host front (decimal port) back (digits_only (decimal port) (decimal_is_IsNumeral port (omega (arith, small.1))).0.1)
    (after_last text front back h) (sym is ∙ split_at_char 58 text front back (omega arith) h)

pub port_found : (digits : List ℕ) (found : Option ℕ) (some : Bool) → some ≡ is_some found
    → MatchOption found ((port : ℕ) → IsPort port → digits ≡ decimal port → ⊥) (λ port. IsPort port × (digits ≡ decimal port))
    → IsTrue some ↔ ((port : ℕ) × IsPort port × (digits ≡ decimal port))
port_found digits None some is none = (λ t. absurd cc, λ has. absurd (none has.0 has.1 has.2))
port_found digits (Some port) some is given = (λ t. (port, given.0, given.1), λ has. is)

pub some_of : (l : List ℕ) (empty : Bool) → empty ≡ (length l == 0) → IsTrue (not empty) ↔ (l ≢ [])
some_of [] empty is = (λ t. absurd cc, λ some. absurd (some refl))
some_of (x ∷ xs) empty is =
    let is_false : empty ≡ false = grind (arith, nat_tests) in
    (λ t same. absurd cc, λ some. ap not is_false)
