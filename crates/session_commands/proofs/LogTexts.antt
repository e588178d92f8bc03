-- What a log shows of a login.
use Rattle.std.proofs.Common.{◌≡◌, ◌≢◌, inl, inr, ◌==◌, ◌≤◌, ◌+◌, ◌++◌, ◌∙◌, ℕ, Bool, true, false, not, cond, suc, List, [], ◌∷◌, Option, Result, Ok, Err, IfOk, codes, drop, take, take-append-drop, ap, refl, subst, sym, arith}
use Rattle.std.proofs.lemmas.Bool.Decides.{nat_tests}
use Rattle.std.specs.List.{AllByRecursion, before_first}
use Rattle.session_lines.specs.LineTexts.{login_front}
use Rattle.session_commands.specs.LogTexts.{AppendsEntries, AppendsEntry, AppendsFrontOf, DifferInPasswords, HidesPassword, IsEntryText, IsLogFront, IsLogText, NotesText, login, login_entry, logins, no_entries, no_memory, not_whole, noted, notes_text, other, same, unwritten}
use Rattle.session_commands.specs.Logging.{Entry, Notes, NotesAll}
use Rattle.session_commands.specs.declared.log.LogState.{LogState}
use Rattle.session_commands.specs.declared.log.LogState.TheVariants.{Whole}
use Rattle.std.proofs.KnownBytes.{Appends-nil, Appends-trans}
use Rattle.std.specs.Io.KnownBytes.{Appends}
use Rattle.shogi_session.specs.Host.{IsLoginWord}

before_step : (b : Bool) (n x : ℕ) (xs ys : List ℕ) → b ≡ true → take n xs ≡ ys → take (cond b (1 + n) 0) (x ∷ xs) ≡ x ∷ ys
before_step true n x xs ys is equal =
    let a : 1 + n ≡ suc n = omega arith in
    rw a (ap (λ l. x ∷ l) equal)
before_step false n x xs ys is equal = absurd cc

no_space : (b : ℕ) → 0x21 ≤ b → not (b == 32) ≡ true
no_space b h = grind (arith, nat_tests)

before_space : (name rest : List ℕ) → AllByRecursion (λ b. (0x21 ≤ b) × (b ≤ 0x7E)) name → before_first (λ b. b == 32) (name ++ 32 ∷ rest) ≡ name
before_space [] rest h = refl
before_space (x ∷ xs) rest h = before_step _ _ x _ xs (no_space x h.0.0) (before_space xs rest h.1)

-- the name alone is shown
pub login_shown : (name password shown : List ℕ) → IsLoginWord name → HidesPassword (login_front ++ name ++ 32 ∷ password) shown → shown ≡ login_front ++ name ++ codes " ***"
login_shown name password shown word (login rest is shown_is) =
    let equal : name ++ 32 ∷ password ≡ rest = ap (λ l. drop 6 l) is in
    shown_is ∙ ap (λ l. login_front ++ before_first (λ b. b == 32) l ++ codes " ***") (sym equal)
    ∙ ap (λ l. login_front ++ l ++ codes " ***") (before_space name password word.plain)
login_shown name password shown word (other none is) = absurd (none (name ++ 32 ∷ password) refl)

hides_any : (name one two shown : List ℕ) → IsLoginWord name → HidesPassword (login_front ++ name ++ 32 ∷ one) shown → HidesPassword (login_front ++ name ++ 32 ∷ two) shown
hides_any name one two shown word hidden =
    login (name ++ 32 ∷ two) refl (login_shown name one shown word hidden ∙ ap (λ l. login_front ++ l ++ codes " ***") (sym (before_space name two word.plain)))

same_text : {shows : ℕ → Type 0} (name one two text : List ℕ) → IsLoginWord name → IsEntryText shows (login_entry name one) text → IsEntryText shows (login_entry name two) text
same_text name one two text word is =
    record { time = is.time; is_time = is.is_time; shown = is.shown; is_shown = hides_any name one two is.shown word is.is_shown; text_is = is.text_is }

-- the text of a log does not depend on passwords
pub same_log : (shows : ℕ → Type 0) (entries others : List Entry) (text : List ℕ) → DifferInPasswords entries others → IsLogText shows entries text → IsLogText shows others text
same_log shows _ _ text no_entries is = is
same_log shows _ _ text (same entry more others differ) (first, rest, is_first, is_rest, whole) = (first, rest, is_first, same_log shows more others rest differ is_rest, whole)
same_log shows _ _ text (logins name one two more others word differ) (first, rest, is_first, is_rest, whole) =
    (first, rest, same_text name one two first word is_first, same_log shows more others rest differ is_rest, whole)

-- a log that is whole after an entry has its text
whole_noted : {shows : ℕ → Type 0} (before : LogState) (old : Option (List ℕ)) (entry : Entry) (after : LogState) (new : Option (List ℕ))
    → NotesText shows before old entry after new → after ≡ Whole → (before ≡ Whole) × AppendsEntry shows old new entry
whole_noted before old entry after new (noted was is adds) whole = (was, adds)
whole_noted before old entry after new (not_whole was stays kept) whole = absurd (was (sym stays ∙ whole))
whole_noted before old entry after new (no_memory was is kept) whole = absurd cc
whole_noted before old entry after new (unwritten was is cut) whole = absurd cc

-- a log that is whole at its end was whole all the time
pub noted_all : {shows : ℕ → Type 0} {L : Type 0} (notes : Notes L) (state : L → LogState) (contents : L → Option (List ℕ))
    → ((l m : L) (entry : Entry) → notes l entry m → NotesText shows (state l) (contents l) entry (state m) (contents m))
    → (entries : List Entry) (l m : L) → NotesAll notes l entries m → state m ≡ Whole → (state l ≡ Whole) × AppendsEntries shows (contents l) (contents m) entries
noted_all notes state contents writes [] l m kept whole =
    (ap state (sym kept) ∙ whole, ([], refl, subst (λ x. Appends (contents l) (contents x) []) (sym kept) (Appends-nil (contents l))))
noted_all notes state contents writes (entry ∷ more) l m (k, noted_so, rest) whole =
    let after = noted_all notes state contents writes more k m rest whole in
    let here = whole_noted (state l) (contents l) entry (state k) (contents k) (writes l k entry noted_so) after.0 in
    (here.0, (here.1.0 ++ after.1.0, (here.1.0, after.1.0, here.1.1, after.1.1, refl), Appends-trans (contents l) (contents k) (contents m) here.1.0 after.1.0 here.1.2 after.1.2))

-- nor does a front of it
pub same_front : (shows : ℕ → Type 0) (entries others : List Entry) (text : List ℕ) → DifferInPasswords entries others → IsLogFront shows entries text → IsLogFront shows others text
same_front shows _ _ text no_entries is = is
same_front shows _ _ text (same entry more others differ) (inl none) = inl none
same_front shows _ _ text (same entry more others differ) (inr (inl cut)) = inr (inl cut)
same_front shows _ _ text (same entry more others differ) (inr (inr (first, rest, is_first, is_rest, whole))) = inr (inr (first, rest, is_first, same_front shows more others rest differ is_rest, whole))
same_front shows _ _ text (logins name one two more others word differ) (inl none) = inl none
same_front shows _ _ text (logins name one two more others word differ) (inr (inl (cut, is))) = inr (inl (cut, same_text name one two (text ++ cut) word is))
same_front shows _ _ text (logins name one two more others word differ) (inr (inr (first, rest, is_first, is_rest, whole))) =
    inr (inr (first, rest, same_text name one two first word is_first, same_front shows more others rest differ is_rest, whole))

-- a log that is not whole stays as it is
not_noted : {shows : ℕ → Type 0} (before : LogState) (old : Option (List ℕ)) (entry : Entry) (after : LogState) (new : Option (List ℕ))
    → NotesText shows before old entry after new → before ≢ Whole → (after ≡ before) × (new ≡ old)
not_noted before old entry after new (noted was is adds) ends = absurd (ends was)
not_noted before old entry after new (not_whole was stays kept) ends = (stays, kept)
not_noted before old entry after new (no_memory was is kept) ends = absurd (ends was)
not_noted before old entry after new (unwritten was is cut) ends = absurd (ends was)

none_noted : (shows : ℕ → Type 0) (entries : List Entry) (l m : LogState × Option (List ℕ)) → NotesAll (notes_text shows) l entries m → l.0 ≢ Whole → m.1 ≡ l.1
none_noted shows [] l m kept ends = ap (λ (x : LogState × Option (List ℕ)). x.1) kept
none_noted shows (entry ∷ more) l m (k, step, rest) ends =
    let here = not_noted l.0 l.1 entry k.0 k.1 step ends in
    none_noted shows more k m rest (λ whole. ends (sym here.0 ∙ whole)) ∙ here.1

-- a log has a front of the text of what was noted in it
no_more : (shows : ℕ → Type 0) (entries : List Entry) (old new : Option (List ℕ)) → new ≡ old → AppendsFrontOf shows old new entries
no_more shows [] old new kept = ([], refl, subst (λ x. Appends old x []) (sym kept) (Appends-nil old))
no_more shows (entry ∷ more) old new kept = ([], inl refl, subst (λ x. Appends old x []) (sym kept) (Appends-nil old))

front_after : (shows : ℕ → Type 0) (entry : Entry) (more : List Entry) (l k m : LogState × Option (List ℕ))
    → NotesText shows l.0 l.1 entry k.0 k.1 → NotesAll (notes_text shows) k more m → AppendsFrontOf shows k.1 m.1 more → AppendsFrontOf shows l.1 m.1 (entry ∷ more)
front_after shows entry more l k m (noted was is (text, is_text, adds)) rest (front, is_front, more_adds) =
    (text ++ front, inr (inr (text, front, is_text, is_front, refl)), Appends-trans l.1 k.1 m.1 text front adds more_adds)
front_after shows entry more l k m (not_whole was stays kept) rest found =
    no_more shows (entry ∷ more) l.1 m.1 (none_noted shows more k m rest (λ whole. was (sym stays ∙ whole)) ∙ kept)
front_after shows entry more l k m (no_memory was is kept) rest found =
    no_more shows (entry ∷ more) l.1 m.1 (none_noted shows more k m rest (λ whole. absurd cc) ∙ kept)
front_after shows entry more l k m (unwritten was is (text, is_text, (n, least, adds))) rest found =
    let whole : take n text ++ drop n text ≡ text = take-append-drop n text in (
      take n text,
      inr (inl (drop n text, subst (IsEntryText shows entry) (sym whole) is_text)),
      subst (λ x. Appends l.1 x (take n text)) (sym (none_noted shows more k m rest (λ whole. absurd cc))) adds,
    )

pub front_noted : (shows : ℕ → Type 0) (entries : List Entry) (l m : LogState × Option (List ℕ)) → NotesAll (notes_text shows) l entries m → AppendsFrontOf shows l.1 m.1 entries
front_noted shows [] l m kept = no_more shows [] l.1 m.1 (ap (λ (x : LogState × Option (List ℕ)). x.1) kept)
front_noted shows (entry ∷ more) l m (k, step, rest) = front_after shows entry more l k m step rest (front_noted shows more k m rest)

-- a login that is written so has no password
pub login_if_ok : {X E : Type 0} (bytes : X → List ℕ) (r : Result X E) (lines rest : List ℕ) → lines ≡ login_front ++ rest
    → IfOk r (λ x. bytes x ≡ login_front ++ before_first (λ b. b == 32) rest ++ codes " ***") → IfOk r (λ x. HidesPassword lines (bytes x))
login_if_ok bytes (Ok x) lines rest is shown = login rest is shown
login_if_ok bytes (Err e) lines rest is shown = tt
