-- Which words may be files that are not UTF-8, and what ends a requested command early.
use Rattle.std.specs.Prelude.{◌≡◌, ◌≢◌, ◌⊎◌, ℕ, Bool, List, [], ◌∷◌, count_by}
use Rattle.std.specs.Borrow.{Bor}
use Rattle.std.specs.Str.{bytes_eq}
use Rattle.csa_record.specs.declared.flow.FlowFault.{FlowFault}
use Rattle.record_commands.specs.declared.fault.PositionLineFault.{PositionLineFault}
use Rattle.record_commands.specs.declared.fault.PositionLineFault.TheVariants.{Refused}
use Rattle.archive_commands.specs.declared.many.Tally.{Tally}
use Rattle.session_setup.specs.declared.fault.PlayCommandFault.{PlayCommandFault}
use Rattle.session_setup.specs.declared.fault.ServeFault.{ServeFault}
use Rattle.session_setup.specs.declared.fault.TalkFault.{TalkFault}
use Rattle.shogi.specs.Stops.{stop_of_line, stop_of_play, stop_of_record, stop_of_serve, stop_of_talk}
use Rattle.shogi.specs.declared.stop.Stop.{Stop}
use Rattle.shogi.specs.declared.stop.Stop.TheVariants.{NotAll}
use Rattle.shogi_words.specs.declared.request.Request.{Request}
use Rattle.usi_text.specs.declared.fault.UsiFault.TheVariants.{OutOfMemory}
use Rattle.shogi_words.specs.declared.request.Request.TheVariants.{Check, Digest, Same, Normal, Usi, Csa, Engine, Serve, Play}

-- what is put in place of a word that is not UTF-8: NUL alone
abbrev pub is_not_text : Bor (List ℕ) → Bool
is_not_text word = bytes_eq word.now (0 ∷ [])

-- so many of the files are words that are not UTF-8; these are files of a command that reads any
-- number
abbrev pub AreFiles : Request → ℕ → Type 0
AreFiles (Check records) n = count_by is_not_text records.files.now ≡ n
AreFiles (Digest records) n = count_by is_not_text records.files.now ≡ n
AreFiles (Same records likeness) n = count_by is_not_text records.files.now ≡ n
AreFiles (Normal one) n = ⊥
AreFiles (Usi one) n = ⊥
AreFiles (Csa file) n = ⊥
AreFiles Engine n = ⊥
AreFiles (Serve service) n = ⊥
AreFiles (Play game) n = ⊥

-- it was the fault of a record; or of several files some were not accepted
abbrev pub IsStopOfFiles : Stop → Type 0
IsStopOfFiles stop = ((fault : FlowFault) × (stop ≡ stop_of_record fault))
    ⊎ ((tally : Tally) × ((tally.refused ≡ 0) × (tally.unreadable ≡ 0) → ⊥)
    × (stop ≡ NotAll tally))

abbrev pub IsStopOf : Request → Stop → Type 0
IsStopOf (Check records) stop = IsStopOfFiles stop
IsStopOf (Digest records) stop = IsStopOfFiles stop
IsStopOf (Same records likeness) stop = IsStopOfFiles stop
IsStopOf (Normal one) stop = (fault : FlowFault) × (stop ≡ stop_of_record fault)
IsStopOf (Usi one) stop = (fault : FlowFault) × (stop ≡ stop_of_record fault)
IsStopOf (Csa file) stop =
    (fault : PositionLineFault) × (fault ≢ Refused OutOfMemory) × (stop ≡ stop_of_line fault)
IsStopOf Engine stop = (fault : TalkFault) × (stop ≡ stop_of_talk fault)
IsStopOf (Serve service) stop = (fault : ServeFault) × (stop ≡ stop_of_serve fault)
IsStopOf (Play game) stop = (fault : PlayCommandFault) × (stop ≡ stop_of_play fault)
