-- What the lines of a position block are so far, one after another.
use Rattle.std.proofs.Common.{◌≡◌, ℕ, inl, inr, List, [], ◌∷◌, ◌++◌, Result, Ok, Err, append_assoc, refl, sym, ap, subst, ◌∙◌}
use Rattle.std.specs.List.{AllByRecursion}
use Rattle.std.specs.Prelude.{IfOk}
use Rattle.std.proofs.lemmas.List.{append-nil}
use Rattle.csa_record.specs.Game.{Game}
use Rattle.csa_record.specs.RecordReading.{RecordReading, HasRead}
use Rattle.csa_record.specs.Tells.{Tells}
use Rattle.csa_text.specs.Saying.{Saying}
use Rattle.session_lines.specs.Texts.{ended_line}
use Rattle.bridge_table.proofs.PositionFits.{FitsIn}
use Rattle.bridge_table.specs.Summary.{TellsPosition}
use Rattle.shogi_session.proofs.BlockLines.{ReadText, read_join, read_part, read_nothing, text_join, text_part, unmarked, unmarked_or}
use Rattle.shogi_session.specs.declared.position_reader.Fed.{Fed}
use Rattle.shogi_session.specs.declared.position_reader.Fed.TheVariants.{Taken, Refused}
use Rattle.shogi_session.specs.PositionTexts.{IsFed, IsFedOn, IsPositionText, IsTaken, IsWhole, TellsNone}

abbrev Any : Saying → Type 0
Any s = Unit {0}

any_all : (ss : List Saying) → AllByRecursion Any ss
any_all [] = tt
any_all (s ∷ ss) = (tt, any_all ss)

read_position : (text : List ℕ) → IsPositionText text → ReadText FitsIn text
read_position text p = record { statements = p.statements; sayings = p.sayings; cut = p.cut; spelt = p.spelt; fit = p.no_others }

position_read : (text : List ℕ) → ReadText FitsIn text → IsPositionText text
position_read text r = record { statements = r.statements; sayings = r.sayings; cut = r.cut; spelt = r.spelt; no_others = r.fit }

position_in : (text : List ℕ) (g : Game) → TellsPosition text g → ReadText FitsIn text
position_in text g p = record { statements = p.statements; sayings = p.sayings; cut = p.cut; spelt = p.spelt; fit = p.no_others }

any_in : (text : List ℕ) (g : Game) → Tells text g → ReadText Any text
any_in text g p = record { statements = p.statements; sayings = p.sayings; cut = p.cut; spelt = p.spelt; fit = any_all p.sayings }

-- a line after others, and what follows it
after_line : (front line more : List ℕ) → ((front ++ 10 ∷ []) ++ (line ++ 10 ∷ [])) ++ more ≡ front ++ 10 ∷ (line ++ 10 ∷ more)
after_line front line more =
    append_assoc (front ++ 10 ∷ []) (line ++ 10 ∷ []) more
    ∙ (append_assoc front (10 ∷ []) ((line ++ 10 ∷ []) ++ more) ∙ ap (λ xs. front ++ 10 ∷ xs) (append_assoc line (10 ∷ []) more))

-- 1. A line of another kind
first_none : (line : List ℕ) → (IsPositionText line → ⊥) → TellsNone (ended_line line)
first_none line none = λ more g p.
    let r = subst (ReadText FitsIn) (append_assoc line (10 ∷ []) more) (position_in _ g p) in
    none (position_read line (text_part FitsIn line more r).0)

later_none : (front line : List ℕ) → (IsPositionText line → ⊥) → TellsNone ((front ++ 10 ∷ []) ++ ended_line line)
later_none front line none = λ more g p.
    let r = subst (ReadText FitsIn) (after_line front line more) (position_in _ g p) in
    let rest = (text_part FitsIn front (line ++ 10 ∷ more) r).1 in
    none (position_read line (unmarked FitsIn line (read_part FitsIn 0 line more rest).0))

pub another_line : (text line : List ℕ) (reader : RecordReading) → IsFed text reader → (IsPositionText line → ⊥) → TellsNone (text ++ ended_line line)
another_line text line reader fed none =
    elim fed.whole [
      | inl e ↦ subst (λ x. TellsNone (x ++ ended_line line)) (sym e) (first_none line none)
      | inr w ↦ subst (λ x. TellsNone (x ++ ended_line line)) (sym w.1) (later_none w.0 line none)
    ]

pub none_more : (text more : List ℕ) → TellsNone text → TellsNone (text ++ more)
none_more text more none = λ other g p. none (more ++ other) g (subst (λ x. TellsPosition x g) (append_assoc text more other) p)

-- 2. A line of these kinds
first_fits : (line : List ℕ) → IsPositionText line → IsPositionText (ended_line line)
first_fits line p = position_read (ended_line line) (text_join FitsIn line [] (read_position line p) (read_nothing FitsIn 0))

later_fits : (front line more : List ℕ) (g : Game) → IsPositionText (front ++ 10 ∷ []) → IsPositionText line
    → Tells (((front ++ 10 ∷ []) ++ ended_line line) ++ more) g → IsPositionText ((front ++ 10 ∷ []) ++ ended_line line)
later_fits front line more g before p stated =
    let all = subst (ReadText Any) (after_line front line more) (any_in _ g stated) in
    let any = (read_part Any 0 line more (text_part Any front (line ++ 10 ∷ more) all).1).0 in
    let fits = read_join FitsIn 0 0 line [] (unmarked_or FitsIn Any line any (read_position line p)) (read_nothing FitsIn 0) in
    let whole = text_join FitsIn front (line ++ 10 ∷ []) (text_part FitsIn front [] (read_position _ before)).0 fits in
    position_read _ (subst (ReadText FitsIn) (sym (append_assoc front (10 ∷ []) (line ++ 10 ∷ []))) whole)

fits_on : (text line more : List ℕ) (g : Game) → IsWhole text → (Tells (text ++ (ended_line line ++ more)) g → IsPositionText text) → IsPositionText line
    → Tells ((text ++ ended_line line) ++ more) g → IsPositionText (text ++ ended_line line)
fits_on text line more g (inl e) before p stated = subst (λ x. IsPositionText (x ++ ended_line line)) (sym e) (first_fits line p)
fits_on text line more g (inr w) before p stated =
    let here = before (subst (λ x. Tells x g) (append_assoc text (ended_line line) more) stated) in
    subst (λ x. IsPositionText (x ++ ended_line line)) (sym w.1)
    (later_fits w.0 line more g (subst IsPositionText w.1 here) p (subst (λ x. Tells ((x ++ ended_line line) ++ more) g) w.1 stated))

pub line_fed : (text line : List ℕ) (reader new : RecordReading) → IsFed text reader → IsPositionText line → HasRead ((text ++ line) ++ 10 ∷ []) new
    → IsFed (text ++ ended_line line) new
line_fed text line reader new fed p read =
    let same = append_assoc text line (10 ∷ []) in
    record {
      read = subst (λ x. HasRead x new) same read;
      whole = inr (text ++ line, sym same);
      fits = λ more g stated. fits_on text line more g fed.whole (fed.fits (ended_line line ++ more) g) p stated;
    }

pub nothing_fed : (reader : RecordReading) → HasRead [] reader → IsFed [] reader
nothing_fed reader read =
    record { read = read; whole = inl refl; fits = λ more g stated. position_read [] (read_nothing FitsIn 0) }

-- 3. The end
pub all_fits : (text : List ℕ) (reader : RecordReading) (g : Game) → IsFed text reader → Tells text g → IsPositionText text
all_fits text reader g fed stated = fed.fits [] g (subst (λ x. Tells x g) (sym (append-nil text)) stated)

pub none_now : (text : List ℕ) → TellsNone text → (g : Game) → TellsPosition text g → ⊥
none_now text none g p = none [] g (subst (λ x. TellsPosition x g) (sym (append-nil text)) p)

pub line_taken : {E : Type 0} (result : Result Fed E) (text line : List ℕ) (reader new : RecordReading) → IsFed text reader → IsPositionText line
    → IfOk result (λ fed. IsFedOn ((text ++ line) ++ 10 ∷ []) fed new) → IfOk result (λ fed. IsTaken (text ++ ended_line line) fed new)
line_taken (Ok Taken) text line reader new fed p read = line_fed text line reader new fed p read
line_taken (Ok Refused) text line reader new fed p none = subst TellsNone (append_assoc text line (10 ∷ [])) none
line_taken (Err fault) text line reader new fed p read = tt
