-- What is printed about one file, and about those after it.
use Rattle.std.proofs.Common.{Result, Ok, Err, IfOk, OnOk, ◌≡◌, ◌<◌, ◌≤◌, ◌+◌, refl, inl, inr, ℕ, List, length, drop, get_or, Option, sym, subst}
use Rattle.std.proofs.lemmas.List.{drop_all, drop_more}
use Rattle.std.specs.Global.{Vec}
use Rattle.std.specs.Io.KnownBytes.{Appends}
use Rattle.std.specs.Str.{IsUtf8}
use Rattle.csa_record.specs.declared.flow.FlowFault.{FlowFault}
use Rattle.archive_commands.specs.ManyPrinted.{no_text, StopsAt, StopsAmong, PrintsAll, PrintsFile, Printed, printed_of}
use Rattle.archive_commands.specs.Lines.{AreUnreadableLines}
use Rattle.archive_commands.specs.Lists.{items_of}
use Rattle.archive_commands.specs.declared.many.Tally.{Tally}
use Rattle.archive_commands.specs.declared.lines.LineForm.{LineForm}

pub next_printed : {Input : Type 0} (Unopened : Option (List ℕ) → Type 0) (Opened : Option (List ℕ) → Input → Type 0) (bytes : Input → Option (List ℕ)) (form : LineForm)
    (files : List (Vec ℕ)) (i : ℕ) (d : Vec ℕ) (old mid new : Printed) → i < length files
    → PrintsFile Unopened Opened bytes form (get_or files i d).items old mid → PrintsAll Unopened Opened bytes form (items_of (drop (i + 1) files)) mid new
    → PrintsAll Unopened Opened bytes form (items_of (drop i files)) old new
next_printed U O bytes form files i d old mid new within one rest =
    subst (λ fs. PrintsAll U O bytes form (items_of fs) old new) (sym (drop_more files i d within)) (mid, one, rest)

pub next_stops : {Input : Type 0} (Unopened : Option (List ℕ) → Type 0) (Opened : Option (List ℕ) → Input → Type 0) (bytes : Input → Option (List ℕ)) (form : LineForm)
    (files : List (Vec ℕ)) (i : ℕ) (d : Vec ℕ) (old mid : Printed) (out err : Option (List ℕ)) (fault : FlowFault) → i < length files
    → PrintsFile Unopened Opened bytes form (get_or files i d).items old mid → StopsAmong Unopened Opened bytes form (items_of (drop (i + 1) files)) mid out err fault
    → StopsAmong Unopened Opened bytes form (items_of (drop i files)) old out err fault
next_stops U O bytes form files i d old mid out err fault within one rest =
    subst (λ fs. StopsAmong U O bytes form (items_of fs) old out err fault) (sym (drop_more files i d within)) (inr (mid, one, rest))

pub stops_here : {Input : Type 0} (Unopened : Option (List ℕ) → Type 0) (Opened : Option (List ℕ) → Input → Type 0) (bytes : Input → Option (List ℕ)) (form : LineForm)
    (files : List (Vec ℕ)) (i : ℕ) (d : Vec ℕ) (old : Printed) (out err : Option (List ℕ)) (fault : FlowFault) → i < length files
    → StopsAt Unopened Opened bytes form (get_or files i d).items old.out old.err out err fault
    → StopsAmong Unopened Opened bytes form (items_of (drop i files)) old out err fault
stops_here U O bytes form files i d old out err fault within at =
    subst (λ fs. StopsAmong U O bytes form (items_of fs) old out err fault) (sym (drop_more files i d within)) (inl at)

pub all_printed : {Input : Type 0} (Unopened : Option (List ℕ) → Type 0) (Opened : Option (List ℕ) → Input → Type 0) (bytes : Input → Option (List ℕ)) (form : LineForm)
    (files : List (Vec ℕ)) (i : ℕ) (now : Printed) → length files ≤ i → PrintsAll Unopened Opened bytes form (items_of (drop i files)) now now
all_printed U O bytes form files i now end = subst (λ fs. PrintsAll U O bytes form (items_of fs) now now) (sym (drop_all i files end)) refl

-- the path of a file is not UTF-8
pub no_text_printed : {Input : Type 0} (Unopened : Option (List ℕ) → Type 0) (Opened : Option (List ℕ) → Input → Type 0) (bytes : Input → Option (List ℕ)) (form : LineForm)
    (path : List ℕ) (out err new : Option (List ℕ)) (tally : Tally) (answer : Result Tally FlowFault) → (IsUtf8 path → ⊥)
    → OnOk answer ((name : List ℕ) × (text : List ℕ) × AreUnreadableLines name text × Appends err new text) → IfOk answer (λ after. after ≡ record tally { unreadable = tally.unreadable + 1 })
    → IfOk answer (λ after. PrintsFile Unopened Opened bytes form path (printed_of out err tally) (printed_of out new after))
no_text_printed U O bytes form path out err new tally (Err fault) other printed is = tt
no_text_printed U O bytes form path out err new tally (Ok after) other printed is = no_text printed.0 printed.1 other printed.2 refl printed.3 is
