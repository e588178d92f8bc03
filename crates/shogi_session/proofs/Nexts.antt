-- What a cutter yields next, as an item.
use Rattle.std.proofs.Common.{◌≡◌, ℕ, ◌≤◌, List, ◌∷◌, length, drop, slice_range, Ok, Err, Some, arith, refl, subst, inr}
use Rattle.csa_cutting.proofs.Fronts.{length_between}
use Rattle.csa_cutting.proofs.Runs.{found}
use Rattle.csa_cutting.proofs.Spoken.{stated_first}
use Rattle.csa_cutting.specs.Cut.{TextUnit, Statements}
use Rattle.csa_cutting.specs.Cutting.{Cutting, ToCome, IsHandedOut, unit_between}
use Rattle.csa_text.specs.Saying.{Saying, time, saying_of}
use Rattle.csa_text.specs.Spelling.{Spells, fault_of_row}
use Rattle.csa_text.specs.declared.fault.TextFault.{TextFault}
use Rattle.csa_text.specs.declared.fault.TextFault.TheVariants.{Unknown}
use Rattle.csa_text.specs.declared.item.Item.{Item}
use Rattle.csa_record.specs.Tells.{IsSpelt}
use Rattle.shogi_session.specs.NextItems.{StepsOver, IsUnread, unread, Next, FaultAt, EndFault, LastTime}
use Rattle.session_lines.specs.ServerLines.{another, extra}

-- a cutter that yielded a statement
pub record Handed (c d : Cutting) (number offset : ℕ) (bytes : List ℕ) : Type 0 where
  pub same : d.source ≡ c.source
  pub out : IsHandedOut c d number offset bytes

abbrev pub unit_of : Cutting → Cutting → ℕ → TextUnit
unit_of c d offset = unit_between c.source offset d.at

pub handed_steps : (c d : Cutting) (number offset : ℕ) (bytes : List ℕ) → Handed c d number offset bytes → StepsOver c (unit_of c d offset) d
handed_steps c d number offset bytes h others rest =
    stated_first c.source c.at offset d.at others h.out.first (subst (λ x. Statements d.at (drop d.at x) others) h.same rest)

pub handed_short : (c d : Cutting) (number offset : ℕ) (bytes : List ℕ) → Handed c d number offset bytes → length (slice_range c.source offset d.at) ≤ 4096
handed_short c d number offset bytes h =
    let e = length_between c.source offset d.at h.out.first.unit.order h.out.first.unit.within in
    let s = h.out.short in
    omega (arith, e, s)

pub handed_spelt : (c d : Cutting) (number offset : ℕ) (bytes : List ℕ) (s : Saying) → Handed c d number offset bytes → Spells bytes s
    → IsSpelt (unit_of c d offset) s
handed_spelt c d number offset bytes s h spells =
    (handed_short c d number offset bytes h, subst (λ b. Spells b s) h.out.slice spells)

-- some statements follow it
pub handed_first : (c d : Cutting) (number offset : ℕ) (bytes : List ℕ) → Handed c d number offset bytes
    → (following : List TextUnit) × ToCome c (unit_of c d offset ∷ following)
handed_first c d number offset bytes h =
    let rest = found d.at (drop d.at d.source) in
    (rest.0, handed_steps c d number offset bytes h rest.0 rest.1)

pub handed_unread : (c d : Cutting) (number offset : ℕ) (bytes : List ℕ) (fault : TextFault) → Handed c d number offset bytes
    → ((s : Saying) → Spells bytes s → ⊥) → fault ≡ fault_of_row bytes → IsUnread (unit_of c d offset) fault
handed_unread c d number offset bytes fault h none e =
    unread (handed_short c d number offset bytes h)
    (subst (λ b. (s : Saying) → Spells b s → ⊥) h.out.slice none)
    (subst (λ b. fault ≡ fault_of_row b) h.out.slice e)

pub next_read : (c d : Cutting) (number offset : ℕ) (bytes : List ℕ) (item : Item) → Handed c d number offset bytes
    → Spells bytes (saying_of item) → Next c (Ok (Some item)) d
next_read c d number offset bytes item h spells =
    (unit_of c d offset, handed_spelt c d number offset bytes (saying_of item) h spells, handed_steps c d number offset bytes h)

pub next_unread : (c d : Cutting) (number offset : ℕ) (bytes : List ℕ) (fault : TextFault) → Handed c d number offset bytes
    → ((s : Saying) → Spells bytes s → ⊥) → fault ≡ fault_of_row bytes → Next c (Err fault) d
next_unread c d number offset bytes fault h none e =
    let first = handed_first c d number offset bytes h in
    (unit_of c d offset, first.0, first.1, handed_unread c d number offset bytes fault h none e)

-- the next item is another than the expected one
pub other_item : (old new : Cutting) (item : Item) (Wanted : Saying → Type 0) → Next old (Ok (Some item)) new → (Wanted (saying_of item) → ⊥)
    → FaultAt old Wanted Unknown
other_item old new item Wanted next unwanted =
    let rest = found new.at (drop new.at new.source) in
    (next.0, rest.0, next.2 rest.0 rest.1, another (saying_of item) next.1 unwanted refl)

-- a statement where none is expected
pub extra_statement : (c d : Cutting) (number offset : ℕ) (bytes : List ℕ) → Handed c d number offset bytes → EndFault c Unknown
extra_statement c d number offset bytes h =
    let first = handed_first c d number offset bytes h in
    (unit_of c d offset, first.0, first.1, extra (handed_short c d number offset bytes h) refl)

pub time_then : (old new : Cutting) (item : Item) (t : ℕ) (fault : TextFault) → Next old (Ok (Some item)) new → saying_of item ≡ time t
    → EndFault new fault → LastTime old (Err fault)
time_then old new item t fault next says more =
    inr (next.0, more.0, more.1, t, next.2 (more.0 ∷ more.1) more.2, subst (IsSpelt next.0) says next.1, more.3)
