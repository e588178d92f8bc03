-- What a request says: the FILEs, the service or the plan of the words after its command.
use Rattle.std.specs.Prelude.{◌≡◌, ◌≢◌, ℕ, List, Bool, true, false, None, Some, ⊤, codes, map, option_map}
use Rattle.clap.specs.Simple.{subcommand_rows_of}
use Rattle.clap.specs.Walk.{rows_of}
use Rattle.clap.specs.Words.{first_value, found_of, one_text}
use Rattle.clap.specs.declared.parser.matches.ArgMatches.{ArgMatches}
use Rattle.clap.specs.declared.parser.matches.Found.{Found}
use Rattle.record_game.specs.declared.likeness.Likeness.TheVariants as likeness
use Rattle.hash_comments.specs.declared.comments.HashLines.TheVariants as hash_lines
use Rattle.shogi_board.specs.declared.color.Color.TheVariants.{Black, White}
use Rattle.shogi_rules.specs.Positions.{max_moves}
use Rattle.shogi_words.specs.Options.{AreGivenSeconds, IsByFlag, IsGiven, files_of, values_of}
use Rattle.shogi_words.specs.Plans.{address_of, most_moves_of, password_file, program_of}
use Rattle.shogi_words.specs.declared.play.Plan.{Plan}
use Rattle.shogi_words.specs.declared.request.OneRecord.{OneRecord}
use Rattle.shogi_words.specs.declared.request.PathEnd.TheVariants as path_end
use Rattle.shogi_words.specs.declared.request.Records.{Records}
use Rattle.shogi_words.specs.declared.request.Request.{Request}
use Rattle.shogi_words.specs.declared.request.Request.TheVariants.{Check, Digest, Same, Normal, Usi, Csa, Engine, Serve, Play}
use Rattle.shogi_words.specs.declared.serve.Service.{Service}

-- these are the words of the command that was named
abbrev pub AreWordsOf : ArgMatches → ArgMatches → Type 0
AreWordsOf matches words =
    option_map (λ row. row.1) (subcommand_rows_of matches) ≡ Some (rows_of (found_of words))

-- the records are the files and the list of these words, and are read as their flags say
pub record AreRecordsOf (found : Found) (is_terminal : Bool) (records : Records) : Type 0 where
  pub files : map (λ s. s.now) records.files.now ≡ files_of found
  pub list : option_map (λ s. s.now) records.list ≡ first_value found (codes "files-from")
  pub path_end : IsByFlag found (codes "null") path_end.Nul path_end.Line records.path_end
  pub hash_lines : IsByFlag found (codes "hash-comments")
      hash_lines.Comments hash_lines.Refused records.hash_lines
  pub explained : IsByFlag found (codes "explain") true is_terminal records.is_explained
  pub progress : IsByFlag found (codes "quiet") false is_terminal records.shows_progress

-- the one record is FILE of these words, and is read as their flags say
pub record IsOneRecordOf (found : Found) (is_terminal : Bool) (one : OneRecord) : Type 0 where
  pub file : option_map (λ s. s.now) one.file ≡ first_value found (codes "FILE")
  pub hash_lines : IsByFlag found (codes "hash-comments")
      hash_lines.Comments hash_lines.Refused one.hash_lines
  pub explained : IsByFlag found (codes "explain") true is_terminal one.is_explained

-- a service has the side, the number and the port of its options, or the usual ones
pub record IsServiceOf (found : Found) (service : Service) : Type 0 where
  pub black : one_text found (codes "white") ≡ Some (codes "false") → service.client ≡ Black
  pub white : one_text found (codes "white") ≡ Some (codes "true") → service.client ≡ White
  pub given : IsGiven (one_text found (codes "max")) 1 max_moves service.max_moves
  pub usual : one_text found (codes "max") ≡ None → service.max_moves ≡ 256
  pub port : IsGiven (one_text found (codes "port")) 0 65535 service.port
  pub free : one_text found (codes "port") ≡ None → service.port ≡ 0

-- a plan has what its options say, or what is usual
pub record IsPlanOf (found : Found) (is_terminal : Bool) (plan : Plan) : Type 0 where
  pub connect : address_of plan.server ≡ first_value found (codes "connect")
  pub server : (text : List ℕ) → first_value found (codes "connect") ≡ None
      → first_value found (codes "server") ≡ Some text → program_of plan.server ≡ Some text
  pub given : (n : ℕ) → most_moves_of plan.server ≡ Some n
      → IsGiven (one_text found (codes "max")) 1 max_moves n
  pub usual : (n : ℕ) → most_moves_of plan.server ≡ Some n
      → one_text found (codes "max") ≡ None → n ≡ 256
  pub engine : (text : List ℕ) → first_value found (codes "engine") ≡ Some text
      → plan.engine.now ≡ text
  pub words : map (λ s. s.now) plan.engine_words.now ≡ values_of found (codes "engine-arg")
  pub name : (text : List ℕ) → first_value found (codes "name") ≡ Some text
      → plan.name.now ≡ text
  pub usual_name : first_value found (codes "name") ≡ None → plan.name.now ≡ codes "bridge"
  pub password : password_file plan.password ≡ first_value found (codes "password-file")
  pub log : option_map (λ s. s.now) plan.log ≡ first_value found (codes "log")
  pub total : AreGivenSeconds (one_text found (codes "total")) 4294967 plan.total_ms
  pub usual_total : one_text found (codes "total") ≡ None → plan.total_ms ≡ 600000
  pub byoyomi : AreGivenSeconds (one_text found (codes "byoyomi")) 4294967 plan.byoyomi_ms
  pub usual_byoyomi : one_text found (codes "byoyomi") ≡ None → plan.byoyomi_ms ≡ 10000
  pub out : (text : List ℕ) → first_value found (codes "out") ≡ Some text → plan.out.now ≡ text
  pub quiet : one_text found (codes "quiet") ≡ Some (codes "true") → plan.is_shown ≡ false
  pub logged : first_value found (codes "log") ≡ Some (codes "-") → plan.is_shown ≡ false
  pub shown : one_text found (codes "quiet") ≡ Some (codes "false")
      → first_value found (codes "log") ≢ Some (codes "-") → plan.is_shown ≡ is_terminal

-- a request says what these words say
abbrev pub SaysWords : Found → Bool → Request → Type 0
SaysWords found is_terminal (Check records) = AreRecordsOf found is_terminal records
SaysWords found is_terminal (Digest records) = AreRecordsOf found is_terminal records
SaysWords found is_terminal (Same records alike) = AreRecordsOf found is_terminal records
    × IsByFlag found (codes "moves") likeness.Moves likeness.Game alike
SaysWords found is_terminal (Normal one) = IsOneRecordOf found is_terminal one
SaysWords found is_terminal (Usi one) = IsOneRecordOf found is_terminal one
SaysWords found is_terminal (Csa file) =
    option_map (λ s. s.now) file ≡ first_value found (codes "FILE")
SaysWords found is_terminal Engine = ⊤
SaysWords found is_terminal (Serve service) = IsServiceOf found service
SaysWords found is_terminal (Play plan) = IsPlanOf found is_terminal plan
