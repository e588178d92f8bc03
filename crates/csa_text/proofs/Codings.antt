-- The signs are all different, as are the names of endings; whether bytes are one of a list's texts
-- is decided.
use Rattle.std.proofs.Common.{◌≡◌, ℕ, List, [], ◌∷◌, Option, Some, None, refl, sym, ap, ◌∙◌, inl, inr, ◌⊎◌}
use Rattle.std.specs.Prelude.{nat_eq}
use Rattle.std.specs.Cmp.Lexicographic.{pointwise, same_text}
use Rattle.std.proofs.lemmas.Bool.{cases_Bool}
use Rattle.shogi_board.specs.declared.color.Color.{Color}
use Rattle.shogi_board.specs.declared.color.Color.TheVariants.{Black, White}
use Rattle.shogi_board.specs.declared.kind.Kind.{Kind}
use Rattle.csa_text.specs.declared.ending.Ending.{Ending}
use Rattle.csa_text.specs.declared.ending.Ending.TheVariants.{Toryo, Chudan, Sennichite, TimeUp, IllegalMove, BlackIllegalAction, WhiteIllegalAction, Jishogi, Kachi, Hikiwake, MaxMoves, Matta, Tsumi, Fuzumi, Error}
use Rattle.csa_text.specs.Codes.{sign, kind_code}
use Rattle.csa_text.specs.CodesOnce.{found_by, text_once, all_kinds, kind_found}
use Rattle.csa_text.specs.Endings.{ending_name}

pub found_spells : {X : Type 0} (text : X → List ℕ) (xs : List X) (bytes : List ℕ) (x : X) → found_by text xs bytes ≡ Some x → bytes ≡ text x
found_spells text [] bytes x h = cc
found_spells text (y ∷ ys) bytes x h =
    elim (cases_Bool (pointwise nat_eq (text y) bytes)) [
      | inl t ↦ let here : Some y ≡ Some x = rw t at h in let same : y ≡ x = cc in sym (same_text (text y) bytes (sym t)) ∙ ap text same
      | inr f ↦ found_spells text ys bytes x (rw f at h)
    ]

some_or_none : {X : Type 0} (o : Option X) → ((x : X) × (o ≡ Some x)) ⊎ (o ≡ None)
some_or_none None = inr refl
some_or_none (Some x) = inl (x, refl)

pub text_or_not : {X : Type 0} (text : X → List ℕ) (xs : List X) → ((x : X) → found_by text xs (text x) ≡ Some x) → (bytes : List ℕ) → ((x : X) × (bytes ≡ text x)) ⊎ ((x : X) → bytes ≡ text x → ⊥)
text_or_not text xs all bytes =
    elim (some_or_none (found_by text xs bytes)) [
      | inl found ↦ inl (found.0, found_spells text xs bytes found.0 found.1)
      | inr none ↦ inr (λ x e. let same : None ≡ Some x = sym none ∙ ap (found_by text xs) e ∙ all x in cc)
    ]

pub kind_or_not : (bytes : List ℕ) → ((k : Kind) × (bytes ≡ kind_code k)) ⊎ ((k : Kind) → bytes ≡ kind_code k → ⊥)
kind_or_not bytes = text_or_not kind_code all_kinds kind_found bytes

abbrev pub all_endings : List Ending
all_endings = Toryo ∷ Chudan ∷ Sennichite ∷ TimeUp ∷ IllegalMove ∷ BlackIllegalAction ∷ WhiteIllegalAction ∷ Jishogi ∷ Kachi ∷ Hikiwake ∷ MaxMoves ∷ Matta ∷ Tsumi ∷ Fuzumi ∷ Error ∷ []

pub ending_found : (e : Ending) → found_by ending_name all_endings (ending_name e) ≡ Some e
ending_found Toryo = refl
ending_found Chudan = refl
ending_found Sennichite = refl
ending_found TimeUp = refl
ending_found IllegalMove = refl
ending_found BlackIllegalAction = refl
ending_found WhiteIllegalAction = refl
ending_found Jishogi = refl
ending_found Kachi = refl
ending_found Hikiwake = refl
ending_found MaxMoves = refl
ending_found Matta = refl
ending_found Tsumi = refl
ending_found Fuzumi = refl
ending_found Error = refl

pub ending_once : (a b : Ending) → ending_name a ≡ ending_name b → a ≡ b
ending_once a b e = text_once ending_name all_endings ending_found a b e

pub ending_or_not : (bytes : List ℕ) → ((e : Ending) × (bytes ≡ ending_name e)) ⊎ ((e : Ending) → bytes ≡ ending_name e → ⊥)
ending_or_not bytes = text_or_not ending_name all_endings ending_found bytes

pub sign_once : (a b : Color) → sign a ≡ sign b → a ≡ b
sign_once Black Black h = refl
sign_once Black White h = cc
sign_once White Black h = cc
sign_once White White h = refl
