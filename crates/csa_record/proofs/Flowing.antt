-- What passes from a source through a reader to a sink.
use Rattle.std.proofs.Common.{◌≡◌, ◌≢◌, inl, inr, ℕ, ◌+◌, ◌<◌, ◌≤◌, Bool, true, false, List, [], ◌∷◌, ◌++◌, length, Option, Some, None, Result, Ok, Err, refl, sym, ◌∙◌, ap, subst, arith, append-nil, length-append, take}
use Rattle.std.specs.Io.KnownBytes.{Consumes, IsAtEnd}
use Rattle.std.proofs.KnownBytes.{Consumes-trans}
use Rattle.std.proofs.lemmas.Grind.{common_steps}
use Rattle.shogi_board.specs.declared.color.Color.{Color}
use Rattle.shogi_board.specs.declared.setup.SetupFault.{SetupFault}
use Rattle.shogi_board.specs.Layout.{Layout}
use Rattle.shogi_rules.specs.declared.line.PlayFault.{PlayFault}
use Rattle.shogi_rules.specs.declared.line.PlayFault.TheVariants as playing
use Rattle.csa_text.specs.Saying.{Saying, version, name, header, even, rank, pieces, turn, walked, time, ending}
use Rattle.record_game.specs.declared.fault.OrderFault.{OrderFault}
use Rattle.record_game.specs.declared.fault.Refusal.{Refusal}
use Rattle.record_game.specs.declared.fault.Why.{Why}
use Rattle.record_game.specs.declared.fault.Why.TheVariants as why
use Rattle.csa_record.specs.declared.flow.Fed.TheVariants.{Piece, End}
use Rattle.csa_record.specs.declared.flow.FlowFault.{FlowFault}
use Rattle.csa_cutting.proofs.Joining.{pieces_closed}
use Rattle.record_game.specs.Closed.{AreFaultless}
use Rattle.csa_record.specs.Flow.{after_read, fault_by, fault_of, IsRefusedFrom, IsFaultlessFrom, IsRefusal, StopsAt, IsReadFault}
use Rattle.csa_record.specs.FlowSteps.{FeedsNext, IsFed, IsFedAll}
use Rattle.record_game.specs.Order.{order_fault}
use Rattle.record_game.specs.LaidOut.{laid_out}
use Rattle.csa_record.specs.RecordReading.{RecordReading, HasRead}
use Rattle.csa_record.specs.ReadingSteps.{IsRefusedBy}
use Rattle.record_game.specs.Refused.{Refused, FaultlessTo, AnswersItem, AnswersAfter, AnswersInOrder, Finishes, IsJudged, start_why}

-- ---- no record is refused as `Failed`

start_first : (r : Result Layout SetupFault) → Some why.Failed ≡ start_why r → ⊥
start_first (Ok s) h = cc
start_first (Err fault) h = cc

turn_first : (r : Result Layout SetupFault) (color : Color) → Finishes r color (Some why.Failed) → ⊥
turn_first (Ok s) color h = let is = h.1 in cc
turn_first (Err fault) color h = h

judged_first : (played : Option PlayFault) → IsJudged played (Some why.Failed) → ⊥
judged_first None h = cc
judged_first (Some (playing.Broken rule)) h = cc
judged_first (Some playing.TooManyMoves) h = h
judged_first (Some playing.OutOfMemory) h = h

in_order_first : (before : List Saying) (saying : Saying) → AnswersInOrder before saying (Some why.Failed) → ⊥
in_order_first before version h = cc
in_order_first before (name color text) h = cc
in_order_first before (header key text) h = cc
in_order_first before (even pairs) h = start_first (laid_out (before ++ even pairs ∷ [])) h
in_order_first before (rank number cells) h = start_first (laid_out (before ++ rank number cells ∷ [])) h
in_order_first before (pieces color pairs) h = start_first (laid_out (before ++ pieces color pairs ∷ [])) h
in_order_first before (turn color) h = turn_first (laid_out before) color h
in_order_first before (walked color m) h = judged_first h.2 h.4
in_order_first before (time t) h = cc
in_order_first before (ending e) h = cc

after_first : (fault : Option OrderFault) (before : List Saying) (saying : Saying) → AnswersAfter fault before saying (Some why.Failed) → ⊥
after_first (Some fault) before saying h = cc
after_first None before saying h = in_order_first before saying h

pub never_failed : (source : List ℕ) (number offset : ℕ) (w : Why) → Refused source number offset w → w ≢ why.Failed
never_failed source number offset w (inl at) = λ is. elim at.fault [
  | inl long ↦ let text = long.1 in cc
  | inr rest ↦ elim rest [
    | inl unspelt ↦ let text = unspelt.2 in cc
    | inr item ↦ after_first (order_fault at.sayings item.0) at.sayings item.0 (subst (λ x. AnswersItem at.sayings item.0 (Some x)) is item.2)
  ]
]
never_failed source number offset w (inr at) = λ is. let order = at.why_is in cc

pub never_failed_by : (source : List ℕ) (r : Refusal) → IsRefusedBy source r → r.why ≢ why.Failed
never_failed_by source r (inl h) = never_failed source r.number r.offset r.why h.1
never_failed_by source r (inr h) = λ is. let lack = h.0 in cc

-- ---- a refusal as a fault

from_first : (new : Option (List ℕ)) (ended : Bool) (bytes : List ℕ) (r : Refusal) → IsRefusedFrom new ended bytes r → r.why ≢ why.Failed
from_first new ended bytes r (inl h) = never_failed (bytes ++ []) r.number r.offset r.why (h [])
from_first new ended bytes r (inr h) = never_failed bytes r.number r.offset r.why h.2

refusal_by : (old new : Option (List ℕ)) (ended : Bool) (bytes : List ℕ) (r : Refusal) → StopsAt bytes → Consumes old new bytes → r.why ≢ why.OutOfMemory → IsRefusedFrom new ended bytes r → IsRefusal old new ended r
refusal_by old new ended bytes r stopped given no_lack refused = record {
  bytes = bytes;
  given = given;
  stopped = stopped;
  refused = refused;
  no_lack = no_lack;
  first = from_first new ended bytes r refused;
}

fault_by_why : (old new : Option (List ℕ)) (ended : Bool) (before after : ℕ) (bytes : List ℕ) (r : Refusal) (w : Why) → StopsAt bytes → r.why ≡ w → Consumes old new bytes → after ≡ before
    → (r.why ≢ why.OutOfMemory → IsRefusedFrom new ended bytes r) → (r.why ≡ why.OutOfMemory → IsFaultlessFrom new ended bytes r.number r.offset)
    → IsReadFault old new ended before after (fault_by w r)
fault_by_why old new ended before after bytes r (why.Text fault) stopped is given quiet refused out_of_memory =
    let no_lack : r.why ≢ why.OutOfMemory = λ h. cc in (refusal_by old new ended bytes r stopped given no_lack (refused no_lack), quiet)
fault_by_why old new ended before after bytes r (why.Order fault) stopped is given quiet refused out_of_memory =
    let no_lack : r.why ≢ why.OutOfMemory = λ h. cc in (refusal_by old new ended bytes r stopped given no_lack (refused no_lack), quiet)
fault_by_why old new ended before after bytes r (why.Start fault) stopped is given quiet refused out_of_memory =
    let no_lack : r.why ≢ why.OutOfMemory = λ h. cc in (refusal_by old new ended bytes r stopped given no_lack (refused no_lack), quiet)
fault_by_why old new ended before after bytes r (why.Rule rule) stopped is given quiet refused out_of_memory =
    let no_lack : r.why ≢ why.OutOfMemory = λ h. cc in (refusal_by old new ended bytes r stopped given no_lack (refused no_lack), quiet)
fault_by_why old new ended before after bytes r why.OutOfMemory stopped is given quiet refused out_of_memory =
    (record { bytes = bytes; given = given; number = r.number; offset = r.offset; faultless = out_of_memory is; stopped = stopped }, quiet)
fault_by_why old new ended before after bytes r why.Failed stopped is given quiet refused out_of_memory =
    let no_lack : r.why ≢ why.OutOfMemory = λ h. cc in (refusal_by old new ended bytes r stopped given no_lack (refused no_lack), quiet)

pub fault_tells : (old new : Option (List ℕ)) (ended : Bool) (before after : ℕ) (bytes : List ℕ) (r : Refusal) (fault : FlowFault) → StopsAt bytes → fault ≡ fault_of r → Consumes old new bytes → after ≡ before
    → (r.why ≢ why.OutOfMemory → IsRefusedFrom new ended bytes r) → (r.why ≡ why.OutOfMemory → IsFaultlessFrom new ended bytes r.number r.offset)
    → IsReadFault old new ended before after fault
fault_tells old new ended before after bytes r fault stopped is given quiet refused out_of_memory =
    subst (IsReadFault old new ended before after) (sym is) (fault_by_why old new ended before after bytes r r.why stopped refl given quiet refused out_of_memory)

-- ---- one piece

-- a reader that was fed bytes has found no fault in their closed statements
pub read_so_far : (bytes : List ℕ) (reader : RecordReading) → HasRead bytes reader → AreFaultless bytes
read_so_far bytes reader read = record {
  closed = read.taken.closed;
  sayings = read.taken.sayings;
  cut = pieces_closed bytes read.taken.closed reader.cutter read.taken.cut.0;
  faultless = read.taken.faultless;
}

stops_at : (bytes front piece : List ℕ) (reader : RecordReading) → bytes ≡ front ++ piece → length piece ≤ 4096 → HasRead front reader → StopsAt bytes
stops_at bytes front piece reader whole short read = record {
  front = front;
  piece = piece;
  whole = whole;
  short = short;
  faultless = read_so_far front reader read;
}

-- the piece shows a fault
pub piece_refused : (bytes piece : List ℕ) (old new : Option (List ℕ)) (ended : Bool) (before after : ℕ) (r : Refusal) (fault : FlowFault) (reader : RecordReading) → HasRead bytes reader → length piece ≤ 4096 → fault ≡ fault_of r → Consumes old new piece → after ≡ before
    → ((more : List ℕ) → r.why ≢ why.OutOfMemory → Refused ((bytes ++ piece) ++ more) r.number r.offset r.why)
    → ((more : List ℕ) → r.why ≡ why.OutOfMemory → FaultlessTo ((bytes ++ piece) ++ more) r.number r.offset)
    → (start : Option (List ℕ)) → Consumes start old bytes → IsReadFault start new ended before after fault
piece_refused bytes piece old new ended before after r fault reader read short is given quiet refused out_of_memory start front =
    fault_tells start new ended before after (bytes ++ piece) r fault (stops_at (bytes ++ piece) bytes piece reader refl short read) is (Consumes-trans start old new bytes piece front given) quiet
    (λ no_lack. inl (λ more. refused more no_lack))
    (λ lack. inl (λ more. out_of_memory more lack))

-- a read that gives nothing although there is room shows the end
pub ended_by : (old new : Bool) (taken : ℕ) (buffer : List ℕ) → taken ≡ 0 → 0 < length buffer → new ≡ after_read old taken buffer → new ≡ true
ended_by true new taken buffer none room is = is
ended_by false new taken buffer none room is = grind (arith, common_steps)

-- no byte came, so the source is at its end
pub no_piece : (bytes buffer : List ℕ) (taken : ℕ) (old new : Option (List ℕ)) (ended : Bool) (before after : ℕ) (r : RecordReading) → taken ≡ 0 → Consumes old new (take taken buffer) → (taken ≡ 0 → 0 < length buffer → IsAtEnd new)
    → 0 < length buffer → ended ≡ true → after ≡ before → HasRead bytes r → FeedsNext bytes old new ended before after (Ok End) r
no_piece bytes buffer taken old new ended before after r none given end room seen quiet h =
    let nothing : take taken buffer ≡ [] = ap (λ n. take n buffer) none in
    (subst (Consumes old new) nothing given, end none room, seen, quiet, h)

-- ---- piece after piece

pub fed_next : (old mid new : Option (List ℕ)) (ended : Bool) (before between after reads : ℕ) (r s : RecordReading) → IsFed old mid before between reads r
    → ((bytes : List ℕ) → HasRead bytes r → FeedsNext bytes mid new ended between after (Ok Piece) s) → IsFed old new before after (reads + 1) s
fed_next old mid new ended before between after reads r s h step =
    let next = step h.bytes h.read in
    let longer : length (h.bytes ++ next.0) ≡ length h.bytes + length next.0 = length-append h.bytes next.0 in
    record {
      bytes = h.bytes ++ next.0;
      given = Consumes-trans old mid new h.bytes next.0 h.given next.1;
      quiet = next.4 ∙ h.quiet;
      least = omega (arith, longer, h.least, next.2);
      most = omega (arith, longer, h.most, next.3);
      read = next.5;
    }

pub fed_last : (old mid new : Option (List ℕ)) (ended : Bool) (before between after reads : ℕ) (r s : RecordReading) → reads ≤ 16777216 → IsFed old mid before between reads r
    → ((bytes : List ℕ) → HasRead bytes r → FeedsNext bytes mid new ended between after (Ok End) s) → IsFedAll old new ended before after s
fed_last old mid new ended before between after reads r s within h step =
    let next = step h.bytes h.read in
    record {
      bytes = h.bytes;
      given = subst (Consumes old new) (append-nil h.bytes) (Consumes-trans old mid new h.bytes [] h.given next.0);
      at_end = next.1;
      seen = next.2;
      few = omega (arith, h.most, within);
      quiet = next.3 ∙ h.quiet;
      read = next.4;
    }

-- ---- the record

pub record_refused : (old new : Option (List ℕ)) (ended : Bool) (before after : ℕ) (r : RecordReading) (e : Refusal) (fault : FlowFault) → fault ≡ fault_of e → IsFedAll old new ended before after r
    → ((source : List ℕ) → HasRead source r → e.why ≢ why.OutOfMemory → Refused source e.number e.offset e.why)
    → ((source : List ℕ) → HasRead source r → e.why ≡ why.OutOfMemory → FaultlessTo source e.number e.offset)
    → IsReadFault old new ended before after fault
record_refused old new ended before after r e fault is h refused out_of_memory =
    fault_tells old new ended before after h.bytes e fault (stops_at h.bytes h.bytes [] r (sym (append-nil h.bytes)) (omega arith) h.read) is h.given h.quiet
    (λ no_lack. inr (h.at_end, h.seen, refused h.bytes h.read no_lack))
    (λ lack. inr (h.at_end, h.seen, out_of_memory h.bytes h.read lack))
