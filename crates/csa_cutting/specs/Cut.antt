-- How the bytes of a record are cut into statements.
use Rattle.std.specs.Prelude.{◌≡◌, ℕ, ◌+◌, ◌==◌, ◌||◌, ◌&&◌, Bool, true, false, not, List, [], ◌∷◌, ◌++◌, length, drop, filter, nat_eq, if◌then◌else◌}
use Rattle.std.specs.List.{AllByRecursion, starts_with}

-- the UTF-8 byte order mark
abbrev pub byte_order_mark : List ℕ
byte_order_mark = 0xEF ∷ 0xBB ∷ 0xBF ∷ []

-- how many bytes the mark at the very start takes
abbrev pub mark_length : List ℕ → ℕ
mark_length source = if starts_with nat_eq source byte_order_mark then 3 else 0

-- CR, LF, comma, space, tab
abbrev pub is_separator : ℕ → Bool
is_separator b = b == 13 || b == 10 || b == 44 || b == 32 || b == 9

-- space, tab
abbrev pub is_blank : ℕ → Bool
is_blank b = b == 32 || b == 9

-- a comment `'`, a name `N` and a header `$` extend to the end of their line
abbrev pub takes_line : ℕ → Bool
takes_line first = first == 39 || first == 78 || first == 36

-- what ends a unit with this first byte: CR, LF, and a comma unless the unit takes its whole line
abbrev pub is_end : ℕ → ℕ → Bool
is_end first b = b == 13 || b == 10 || (b == 44 && not (takes_line first))

-- a unit of the text: the offset of its first byte, and its bytes
pub record TextUnit : Type 0 where
  pub offset : ℕ
  pub bytes : List ℕ

abbrev pub IsGap : List ℕ → Type 0
IsGap gap = AllByRecursion (λ b. is_separator b ≡ true) gap

-- either nothing follows, or a byte that ends a unit with this first byte
abbrev pub EndsBefore : ℕ → List ℕ → Type 0
EndsBefore first [] = Unit {0}
EndsBefore first (b ∷ bs) = is_end first b ≡ true

-- a first byte that is not a separator, and all bytes up to the one that ends the unit
abbrev pub IsUnit : List ℕ → List ℕ → Type 0
IsUnit [] following = ⊥
IsUnit (first ∷ bytes) following =
    (is_separator first ≡ false) × AllByRecursion (λ b. is_end first b ≡ false) bytes
    × EndsBefore first following

-- the text, which begins at this offset, is a gap, the unit, and what follows it
pub record IsNext (offset : ℕ) (text : List ℕ) (u : TextUnit) (following : List ℕ) : Type 0 where
  pub gap : List ℕ
  pub whole : text ≡ gap ++ (u.bytes ++ following)
  pub separators : IsGap gap
  pub place : u.offset ≡ offset + length gap
  pub unit : IsUnit u.bytes following

-- the text is gaps and these units in turn
abbrev pub Units : ℕ → List ℕ → List TextUnit → Type 0
Units offset text [] = IsGap text
Units offset text (u ∷ us) = (following : List ℕ) × IsNext offset text u following
    × Units (u.offset + length u.bytes) following us

abbrev pub begins_with : ℕ → List ℕ → Bool
begins_with first [] = false
begins_with first (b ∷ bs) = b == first

-- a unit that is not a comment
abbrev pub is_statement : TextUnit → Bool
is_statement u = not (begins_with 39 u.bytes)

-- the byte before what was kept of the bytes after it, unless it is a blank and nothing was kept
abbrev pub before_kept : ℕ → List ℕ → List ℕ
before_kept b [] = if is_blank b then [] else b ∷ []
before_kept b (c ∷ cs) = b ∷ c ∷ cs

-- the most bytes that a statement's unit may have
abbrev pub longest_statement : ℕ
longest_statement = 4096

-- the bytes without trailing spaces and tabs
abbrev pub without_last_blanks : List ℕ → List ℕ
without_last_blanks [] = []
without_last_blanks (b ∷ bs) = before_kept b (without_last_blanks bs)

-- the bytes of a statement: a whole name or header, anything else without trailing blanks
abbrev pub statement_bytes : List ℕ → List ℕ
statement_bytes unit =
    if begins_with 78 unit || begins_with 36 unit then unit else without_last_blanks unit

-- the statements of the text from this offset on
pub record Statements (offset : ℕ) (text : List ℕ) (statements : List TextUnit) : Type 0 where
  pub units : List TextUnit
  pub cut : Units offset text units
  pub kept : statements ≡ filter is_statement units

-- the statements of a record's bytes
abbrev pub IsCut : List ℕ → List TextUnit → Type 0
IsCut source statements =
    Statements (mark_length source) (drop (mark_length source) source) statements
