-- Words to log in with, and what gives them.
use Rattle.std.proofs.Common.{◌≡◌, ◌+◌, ◌<◌, ◌≤◌, ℕ, Bool, true, false, cond, ltb, List, [], ◌∷◌, ◌++◌, ◌⊎◌, inl, inr, length, take, slice_index, suc, zero, codes, Option, None, Some, Result, Ok, Err, IfErr, IfOk, IfSome, MatchOption, ok_or, option_map, rules, ap, refl, sym, subst, arith, ◌∙◌}
use Rattle.std.proofs.lemmas.Bool.Decides.{nat_tests}
use Rattle.std.proofs.lemmas.List.{length-take, take_all}
use Rattle.std.proofs.lemmas.Str.{IsUtf8-from_ascii}
use Rattle.std.specs.Borrow.{Bor}
use Rattle.std.specs.Io.Take.{take_inner, take_limit, take_remaining}
use Rattle.std.specs.declared.io.traits.Take.{Take}
use Rattle.std.specs.List.{AllByRecursion, before_first, position_or_len, prefix_len}
use Rattle.std.specs.Str.{IsUtf8}
use Rattle.session_setup.specs.Logins.{GivesNoWord, GivesPassword, HasFirstLine, HasNoPassword, Holds, Opens, bad_line, bad_text, first_line, in_file, in_variable, no_file, no_memory, no_room, no_text, no_word, unread}
use Rattle.session_setup.specs.declared.fault.LoginFault.{LoginFault}
use Rattle.session_setup.specs.declared.fault.LoginFault.TheVariants.{BadPassword, Read, OutOfMemory}
use Rattle.host_and_sample.specs.Host.{IsLoginWord}
use Rattle.shogi_words.specs.declared.play.PasswordSource.TheVariants.{File, Variable}

ascii : (bs : List ℕ) → AllByRecursion (λ b. (0x21 ≤ b) × (b ≤ 0x7E)) bs → (i : ℕ) → slice_index bs i < 128
ascii [] h i = omega arith
ascii (b ∷ bs) h zero = omega (arith, h.0.1)
ascii (b ∷ bs) h (suc i) = ascii bs h.1 i

-- such a word is a text
pub is_text : (word : List ℕ) → IsLoginWord word → IsUtf8 word
is_text word h = IsUtf8-from_ascii word (ascii word h.plain)

-- what comes before the first place that passes, in a list and in its front
front_step : (b : Bool) (n k m x : ℕ) (xs : List ℕ) → take k (take n xs) ≡ take n (take m xs)
    → take (cond b (1 + k) 0) (x ∷ take n xs) ≡ take (suc n) (take (cond b (1 + m) 0) (x ∷ xs))
front_step true n k m x xs same =
    let a : 1 + k ≡ suc k = omega arith in
    let b : 1 + m ≡ suc m = omega arith in
    rw (a, b) (ap (λ l. x ∷ l) same)
front_step false n k m x xs same = refl

excerpt_of : (p : ℕ → Bool) (n : ℕ) (xs : List ℕ) → take (prefix_len p (take n xs)) (take n xs) ≡ take n (take (prefix_len p xs) xs)
excerpt_of p zero xs = refl
excerpt_of p (suc n) [] = refl
excerpt_of p (suc n) (x ∷ xs) = front_step (p x) n _ _ x xs (excerpt_of p n xs)

-- the first line of a list's front is the front of its first line
pub first_line_of_front : (n : ℕ) (bytes : List ℕ) → first_line (take n bytes) ≡ take n (first_line bytes)
first_line_of_front n bytes = excerpt_of _ n bytes

-- if the first line of a long enough front is short, or that of all bytes, they are the same
short_of_front : (n : ℕ) (line : List ℕ) → 32 < n → length (take n line) ≤ 32 → length line ≤ n
short_of_front n line far short = omega (arith, length-take n line)

front_gives : (n : ℕ) (front all : List ℕ) → 32 < n → front ≡ take n all → IsLoginWord (first_line front) → first_line front ≡ first_line all
front_gives n front all far is word =
    let line : first_line front ≡ take n (first_line all) = ap first_line is ∙ first_line_of_front n all in
    let short : length (take n (first_line all)) ≤ 32 = subst (λ l. length l ≤ 32) line word.short in
    line ∙ take_all n (first_line all) (short_of_front n (first_line all) far short)

all_give : (n : ℕ) (front all : List ℕ) → 32 < n → front ≡ take n all → IsLoginWord (first_line all) → IsLoginWord (first_line front)
all_give n front all far is word =
    let short : length (first_line all) ≤ n = omega (arith, word.short) in
    let line : first_line front ≡ first_line all = ap first_line is ∙ first_line_of_front n all ∙ take_all n (first_line all) short in
    subst IsLoginWord (sym line) word

-- what was read of a reader with a limit is the front of its bytes
front_of_known : (bytes : Option (List ℕ)) (n : ℕ) (old new : List ℕ) → old ≡ [] → IfSome (option_map (take n) bytes) (λ xs. new ≡ old ++ xs)
    → IfSome bytes (λ all. new ≡ take n all)
front_of_known None n old new none given = tt
front_of_known (Some all) n old new none given = given ∙ ap (λ l. l ++ take n all) none

pub front_read : {F : Type 0} (remaining : F → Option (List ℕ)) (t : Take F) (file : F) (n : ℕ) (old new : List ℕ)
    → take_limit t ≡ n → take_inner t ≡ file → old ≡ [] → IfSome (take_remaining remaining t) (λ xs. new ≡ old ++ xs)
    → IfSome (remaining file) (λ all. new ≡ take n all)
front_read remaining t file n old new limit inner none given =
    rw (← limit, ← inner) (front_of_known (remaining (take_inner t)) (take_limit t) old new none given)

-- the first line of such a front is the password, if it is one
pub word_given : {T : Type 0} (text_of : T → List ℕ) (bytes : Option (List ℕ)) (n : ℕ) (front line : List ℕ) (found : Option T)
    → 32 < n → IfSome bytes (λ all. front ≡ take n all) → line ≡ first_line front
    → MatchOption found (IsLoginWord line → ⊥) (λ w. IsLoginWord line × (text_of w ≡ line))
    → IfOk (ok_or found BadPassword) (λ w. IsLoginWord (text_of w) × HasFirstLine bytes (text_of w))
word_given text_of None n front line (Some w) far whole is given = (subst IsLoginWord (sym given.1) given.0, tt)
word_given text_of (Some all) n front line (Some w) far whole is given =
    (subst IsLoginWord (sym given.1) given.0, given.1 ∙ is ∙ front_gives n front all far whole (subst IsLoginWord is given.0))
word_given text_of bytes n front line None far whole is given = tt

pub no_word_given : {T : Type 0} (text_of : T → List ℕ) (bytes : Option (List ℕ)) (n : ℕ) (front line : List ℕ) (found : Option T)
    → 32 < n → IfSome bytes (λ all. front ≡ take n all) → line ≡ first_line front
    → MatchOption found (IsLoginWord line → ⊥) (λ w. IsLoginWord line × (text_of w ≡ line))
    → IfErr (ok_or found BadPassword) (GivesNoWord bytes)
no_word_given text_of bytes n front line (Some w) far whole is given = tt
no_word_given text_of None n front line None far whole is given = bad_line line tt given
no_word_given text_of (Some all) n front line None far whole is given =
    bad_line (first_line all) refl (λ word. given (subst IsLoginWord (sym is) (all_give n front all far whole word)))

pub read_fails : (bytes : Option (List ℕ)) (fault : LoginFault) → (fault ≡ Read) ⊎ (fault ≡ OutOfMemory) → GivesNoWord bytes fault
read_fails bytes fault (inl is) = rw is unread
read_fails bytes fault (inr is) = rw is no_room

-- where nothing is found, all bytes come before it
past : (k n : ℕ) → None ≡ cond (ltb k n) (Some k) None → n ≤ k
past k n none = grind (arith, nat_tests)

pub all_before : (p : ℕ → Bool) (bytes : List ℕ) → None ≡ cond (ltb (position_or_len p bytes) (length bytes)) (Some (position_or_len p bytes)) None → bytes ≡ before_first p bytes
all_before p bytes none = sym (take_all (position_or_len p bytes) bytes (past _ _ none))

-- what the first line of a file gives, the file gives
pub file_gives : {T S F : Type 0} (opens : Opens S F) (bytes_of : F → Option (List ℕ)) (holds : Holds S) (secrets : S) (path : Bor (List ℕ)) (file : F) (text_of : T → List ℕ) (r : Result T LoginFault)
    → opens secrets path.now file
    → IfOk r (λ w. IsLoginWord (text_of w) × HasFirstLine (bytes_of file) (text_of w))
    → IfOk r (λ w. IsLoginWord (text_of w) × GivesPassword opens bytes_of holds secrets (File path) (text_of w))
file_gives opens bytes_of holds secrets path file text_of (Ok w) is given = (given.0, in_file path file (text_of w) is given.1)
file_gives opens bytes_of holds secrets path file text_of (Err fault) is given = tt

pub file_gives_none : {T S F : Type 0} (opens : Opens S F) (opens_not : S → List ℕ → Type 0) (bytes_of : F → Option (List ℕ)) (holds : Holds S) (holds_no_text : S → Type 0) (secrets : S) (path : Bor (List ℕ)) (file : F) (r : Result T LoginFault)
    → opens secrets path.now file → IfErr r (GivesNoWord (bytes_of file))
    → IfErr r (HasNoPassword opens opens_not bytes_of holds holds_no_text secrets (File path))
file_gives_none opens opens_not bytes_of holds holds_no_text secrets path file (Ok w) is none = tt
file_gives_none opens opens_not bytes_of holds holds_no_text secrets path file (Err fault) is none = no_word path file fault is none

pub open_fails : {S F : Type 0} (opens : Opens S F) (opens_not : S → List ℕ → Type 0) (bytes_of : F → Option (List ℕ)) (holds : Holds S) (holds_no_text : S → Type 0) (secrets : S) (path : Bor (List ℕ)) (fault : LoginFault)
    → ((fault ≡ Read) × opens_not secrets path.now) ⊎ (fault ≡ OutOfMemory)
    → HasNoPassword opens opens_not bytes_of holds holds_no_text secrets (File path) fault
open_fails opens opens_not bytes_of holds holds_no_text secrets path fault (inl h) = rw h.0 (no_file path h.1)
open_fails opens opens_not bytes_of holds holds_no_text secrets path fault (inr is) = rw is (no_memory (File path))

-- and what the variable has is the password, if it is one
pub variable_fails : {S F : Type 0} (opens : Opens S F) (opens_not : S → List ℕ → Type 0) (bytes_of : F → Option (List ℕ)) (holds : Holds S) (holds_no_text : S → Type 0) (secrets : S) (fault : LoginFault)
    → ((fault ≡ BadPassword) × holds_no_text secrets) ⊎ (fault ≡ OutOfMemory)
    → HasNoPassword opens opens_not bytes_of holds holds_no_text secrets Variable fault
variable_fails opens opens_not bytes_of holds holds_no_text secrets fault (inl h) = rw h.0 (no_text h.1)
variable_fails opens opens_not bytes_of holds holds_no_text secrets fault (inr is) = rw is (no_memory Variable)

pub text_gives : {T S F : Type 0} (opens : Opens S F) (bytes_of : F → Option (List ℕ)) (holds : Holds S) (secrets : S) (text_of : T → List ℕ) (text bytes : List ℕ) (found : Option T)
    → holds secrets (Some text) → bytes ≡ text → MatchOption found (IsLoginWord bytes → ⊥) (λ w. IsLoginWord bytes × (text_of w ≡ bytes))
    → IfOk (ok_or found BadPassword) (λ w. IsLoginWord (text_of w) × GivesPassword opens bytes_of holds secrets Variable (text_of w))
text_gives opens bytes_of holds secrets text_of text bytes (Some w) held is given =
    (subst IsLoginWord (sym given.1) given.0, subst (GivesPassword opens bytes_of holds secrets Variable) (sym (given.1 ∙ is)) (in_variable text held))
text_gives opens bytes_of holds secrets text_of text bytes None held is given = tt

pub text_gives_none : {T S F : Type 0} (opens : Opens S F) (opens_not : S → List ℕ → Type 0) (bytes_of : F → Option (List ℕ)) (holds : Holds S) (holds_no_text : S → Type 0) (secrets : S) (text_of : T → List ℕ) (text bytes : List ℕ) (found : Option T)
    → holds secrets (Some text) → bytes ≡ text → MatchOption found (IsLoginWord bytes → ⊥) (λ w. IsLoginWord bytes × (text_of w ≡ bytes))
    → IfErr (ok_or found BadPassword) (HasNoPassword opens opens_not bytes_of holds holds_no_text secrets Variable)
text_gives_none opens opens_not bytes_of holds holds_no_text secrets text_of text bytes (Some w) held is given = tt
text_gives_none opens opens_not bytes_of holds holds_no_text secrets text_of text bytes None held is given =
    bad_text text held (subst (λ t. IsLoginWord t → ⊥) is given)

pub usual_is_word : IsLoginWord (codes "pw")
usual_is_word = record { some = omega arith; short = omega arith; plain = search rules }
