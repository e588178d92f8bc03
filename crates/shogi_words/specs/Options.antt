-- The words that commands take, and what options give.
use Rattle.std.specs.Prelude.{◌≡◌, ◌*◌, ℕ, List, [], ◌∷◌, Option, Some, false, codes, unwrap_or, option_map}
use Rattle.std.specs.Str.Parse.{digits_value, without_leading_plus}
use Rattle.clap.specs.Lexer.{usize_max}
use Rattle.clap.specs.Words.{App, IsUnsignedIn, Rule, matched_of, new_app, new_rule, one_text, raw_values, with_rule}
use Rattle.clap.specs.declared.builder.action.ArgAction.TheVariants.{SetTrue}
use Rattle.clap.specs.declared.parser.matches.Found.{Found}

-- FILE, one or more
abbrev pub files_rule : Rule
files_rule = record (new_rule (codes "FILE")) {
  range = Some (record { start_inclusive = 1; end_inclusive = usize_max });
}

-- the flag with this name
abbrev pub flag_rule : List ℕ → Rule
flag_rule name = record (new_rule name) { long = Some name; action = Some SetTrue }

-- `--files-from LIST`
abbrev pub list_rule : Rule
list_rule = record (new_rule (codes "files-from")) {
  long = Some (codes "files-from");
  value_names = 1;
}

-- `-0` or `--null`
abbrev pub null_rule : Rule
null_rule = record (flag_rule (codes "null")) { short = Some 48 }

-- a command that takes these words too, in this order
abbrev pub with_rules : App → List Rule → App
with_rules app [] = app
with_rules app (rule ∷ rules) = with_rules (with_rule app rule) rules

-- a command with this name whose one word is FILE, which may be absent
abbrev pub takes_file : List ℕ → App
takes_file name = with_rule (new_app name) (new_rule (codes "FILE"))

-- the same, where FILE is a record
abbrev pub takes_record : List ℕ → App
takes_record name = with_rules (takes_file name)
    (flag_rule (codes "hash-comments") ∷ flag_rule (codes "explain") ∷ [])

-- a command that takes a list of files, and the options for many records
abbrev pub with_list : App → App
with_list app = with_rules app (list_rule ∷ null_rule ∷ flag_rule (codes "hash-comments")
    ∷ flag_rule (codes "explain") ∷ flag_rule (codes "quiet") ∷ [])

-- a command with this name that takes any number of FILEs
abbrev pub takes_files : List ℕ → App
takes_files name = with_list (with_rule (new_app name) files_rule)

-- a command with this name that compares FILEs; whether they may be absent depends on another word
abbrev pub takes_compared : List ℕ → App
takes_compared name =
    with_rule (with_list (with_rule (new_app name) (record files_rule { is_free = false })))
    (flag_rule (codes "moves"))

-- the values of this word, in order
abbrev pub values_of : Found → List ℕ → List (List ℕ)
values_of found word = unwrap_or (option_map raw_values (matched_of found word)) []

-- the FILEs, in order
abbrev pub files_of : Found → List (List ℕ)
files_of found = values_of found (codes "FILE")

-- the value is the first of two if the flag is set, and the second if it is not
abbrev pub IsByFlag : {T : Type 0} → Found → List ℕ → T → T → T → Type 0
IsByFlag found flag set unset value =
    (one_text found flag ≡ Some (codes "true") → value ≡ set)
    × (one_text found flag ≡ Some (codes "false") → value ≡ unset)

-- n is the number that an option's word spells in decimal, if it spells one within these bounds; a
-- plus may come first
abbrev pub IsGiven : Option (List ℕ) → ℕ → ℕ → ℕ → Type 0
IsGiven word low high n =
    (text : List ℕ) → word ≡ Some text
    → IsUnsignedIn low high text → n ≡ digits_value 10 (without_leading_plus text)

-- the milliseconds of the seconds that an option's word spells, if it spells some up to a bound
abbrev pub AreGivenSeconds : Option (List ℕ) → ℕ → ℕ → Type 0
AreGivenSeconds word high milliseconds =
    (text : List ℕ) → word ≡ Some text → IsUnsignedIn 0 high text
    → milliseconds ≡ digits_value 10 (without_leading_plus text) * 1000
