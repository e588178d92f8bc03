-- How a text takes the place of what is at a path.
use Rattle.std.proofs.Common.{◌≡◌, ◌++◌, ◌∷◌, ℕ, List, Option, None, Result, Ok, Err, IfErr, IfOk, OnErr, OnOk, arith, ap, inl, refl, subst, sym, ◌∙◌, take, drop, ◌<◌}
use Rattle.std.specs.Bool.{⊤}
use Rattle.std.specs.Prelude.{codes, decimal}
use Rattle.std.specs.Str.Pattern.{RFindsChar, SplitsAroundMatch}
use Rattle.std.proofs.lemmas.List.{take-append-drop}
use Rattle.std.proofs.lemmas.Str.Pattern.{NoCharPasses-char, drop_at_char}
use Rattle.session_setup.specs.Disk.{Acts, Draft, Fills, Finishes, HasNoSlash, IsBeside, filled, fills, in_folder, not_filled, not_written, without_folder, written}
use Rattle.session_setup.specs.Faults.{IsFileFault}
use Rattle.session_setup.specs.declared.fault.MatchFault.{MatchFault}

-- what holds anyway holds at an error
pub at_err : {T E : Type 0} (G : Type 0) (r : Result T E) → G → OnErr r G
at_err G (Ok x) holds = tt
at_err G (Err e) holds = holds

-- what comes after the last slash has none, and what comes before it is the folder
pub beside_found : (number : ℕ) (target front back new : List ℕ) → SplitsAroundMatch (RFindsChar 47) target front back → new ≡ front ++ (codes "/.shogi_part_" ++ decimal number)
    → IsBeside number new target
beside_found number target front back new h is =
    let low : 47 < 128 = omega arith in
    let at = drop_at_char 47 target h.0 h.1 h.2.1 low in
    let none : HasNoSlash (drop h.1 target) = λ i l. NoCharPasses-char 47 (drop h.1 target) i h.2.0 low l in
    let whole : target ≡ front ++ 47 ∷ back = rw (h.3, h.4) (sym (take-append-drop h.0 target) ∙ ap (λ xs. take h.0 target ++ xs) at) in
    subst (IsBeside number new) (sym whole) (in_folder front back (subst HasNoSlash (sym h.4) none) is)

-- a text is what comes before and after the last of a character
pub split_at_char : (char : ℕ) (text front back : List ℕ) → char < 128 → SplitsAroundMatch (RFindsChar char) text front back → text ≡ front ++ char ∷ back
split_at_char char text front back low h =
    let at = drop_at_char char text h.0 h.1 h.2.1 low in
    rw (h.3, h.4) (sym (take-append-drop h.0 text) ∙ ap (λ xs. take h.0 text ++ xs) at)

pub beside_none : (number : ℕ) (target new : List ℕ) → RFindsChar 47 target None → new ≡ codes ".shogi_part_" ++ decimal number → IsBeside number new target
beside_none number target new h is = without_folder target (λ i l. NoCharPasses-char 47 target i h (omega arith) l) is

-- so is the path that is built so, if there was enough memory for it
pub in_folder_if_ok : {X E : Type 0} (bytes : X → List ℕ) (number : ℕ) (target front back : List ℕ) (r : Result X E) → SplitsAroundMatch (RFindsChar 47) target front back
    → IfOk r (λ x. bytes x ≡ front ++ (codes "/.shogi_part_" ++ decimal number)) → IfOk r (λ x. IsBeside number (bytes x) target)
in_folder_if_ok bytes number target front back (Ok x) h is = beside_found number target front back (bytes x) h is
in_folder_if_ok bytes number target front back (Err e) h is = tt

pub without_folder_if_ok : {X E : Type 0} (bytes : X → List ℕ) (number : ℕ) (target : List ℕ) (r : Result X E) → RFindsChar 47 target None
    → IfOk r (λ x. bytes x ≡ codes ".shogi_part_" ++ decimal number) → IfOk r (λ x. IsBeside number (bytes x) target)
without_folder_if_ok bytes number target (Ok x) h is = beside_none number target (bytes x) h is
without_folder_if_ok bytes number target (Err e) h is = tt

-- a text is only refused if it cannot be written
fills_fault : {D : Type 0} (acts : Acts D) (draft : Draft) (text : List ℕ) (d e : D) (r : Result ⊤ MatchFault) → Fills acts draft text d e r → IfErr r IsFileFault
fills_fault acts draft text d e r (filled done does) = tt
fills_fault acts draft text d e r (not_filled after is_removed stops removes) = inl refl

pub finishes_fault : {D : Type 0} (acts : Acts D) (path text : List ℕ) (d e : D) (draft : Option Draft) (r : Result ⊤ MatchFault) → Finishes acts path text d e draft r → IfErr r IsFileFault
finishes_fault acts path text d e draft r (fills new answer is) = fills_fault acts new text d e r is
finishes_fault acts path text d e draft r (written done does) = tt
finishes_fault acts path text d e draft r (not_written stops) = inl refl

pub finishes_ok : {D : Type 0} (acts : Acts D) (path text : List ℕ) (d e : D) (draft : Option Draft) (r : Result ⊤ MatchFault) → Finishes acts path text d e draft r
    → OnOk r (Finishes acts path text d e draft (Ok tt))
finishes_ok acts path text d e draft (Ok done) h = h
finishes_ok acts path text d e draft (Err fault) h = tt

pub finishes_not : {D : Type 0} (acts : Acts D) (path text : List ℕ) (d e : D) (draft : Option Draft) (r : Result ⊤ MatchFault) → Finishes acts path text d e draft r
    → IfErr r (λ fault. Finishes acts path text d e draft (Err fault))
finishes_not acts path text d e draft (Ok done) h = tt
finishes_not acts path text d e draft (Err fault) h = h
