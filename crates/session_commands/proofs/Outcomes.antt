-- How the clauses of a loop give its outcome.
use Rattle.std.proofs.Common.{ℕ, List, Option, Result, Ok, Err, IfErr, IsErrOf, OnOk, refl, subst, ◌≡◌}
use Rattle.std.specs.Io.KnownBytes.{Appends}
use Rattle.std.specs.Bool.{⊤}
use Rattle.session_setup.specs.declared.fault.MatchFault.{MatchFault}
use Rattle.session_setup.specs.declared.fault.MatchFault.TheVariants.{OutOfMemory, Endless, Write, Session as SessionFailed}
use Rattle.session_commands.specs.Endings.{Ended, nothing_said}
use Rattle.session_commands.specs.Noting.{Noted, NotedBefore, NotedEndless}
use Rattle.session_commands.specs.Plays.{Gives, Misses, Takes}
use Rattle.bridge_table.specs.declared.event.Status.TheVariants.{Done, Failed}
use Rattle.bridge_table.specs.declared.fault.SessionFault.{SessionFault}
use Rattle.shogi_session.specs.Promises.{Session}
use Rattle.session_commands.specs.Playing.{CameOut, IsReported, IsUnreported, done, failed, out_of_memory, endless, not_reported, played_line, reported}

pub came_out : {E : Type 0} (came : Gives E) (missed : Misses E) (went gone : Takes E) (e : E) (s : Session) (f : E) (t : Session) (said ended : Ended) (answer : Result ⊤ MatchFault)
    → said ≡ nothing_said
    → OnOk answer (Noted came went gone e s said f t ended Done)
    → ((why : SessionFault) → IsErrOf answer (SessionFailed why) → Noted came went gone e s said f t ended (Failed why))
    → (IsErrOf answer OutOfMemory → NotedBefore came missed went gone e s said f t ended)
    → (IsErrOf answer Endless → NotedEndless came went gone e s said f t ended)
    → (IsErrOf answer Write → ⊥)
    → CameOut came missed went gone e s f t ended answer
came_out came missed went gone e s f t said ended (Ok over) none is_done is_failed is_out_of_memory is_endless unwritten =
    done over (subst (λ x. Noted came went gone e s x f t ended Done) none is_done)
came_out came missed went gone e s f t said ended (Err (SessionFailed why)) none is_done is_failed is_out_of_memory is_endless unwritten =
    failed why (subst (λ x. Noted came went gone e s x f t ended (Failed why)) none (is_failed why refl))
came_out came missed went gone e s f t said ended (Err OutOfMemory) none is_done is_failed is_out_of_memory is_endless unwritten =
    out_of_memory (subst (λ x. NotedBefore came missed went gone e s x f t ended) none (is_out_of_memory refl))
came_out came missed went gone e s f t said ended (Err Endless) none is_done is_failed is_out_of_memory is_endless unwritten =
    endless (subst (λ x. NotedEndless came went gone e s x f t ended) none (is_endless refl))
came_out came missed went gone e s f t said ended (Err Write) none is_done is_failed is_out_of_memory is_endless unwritten = absurd (unwritten refl)

-- a game of a number of moves is reported by how its line was printed
pub is_reported : {O : Type 0} (played_with : Result ℕ MatchFault → Type 0) (contents : O → Option (List ℕ)) (out after : O) (moves : ℕ) (answer : Result ⊤ MatchFault)
    → played_with (Ok moves) → OnOk answer (Appends (contents out) (contents after) (played_line moves)) → IfErr answer (IsUnreported contents (played_line moves) out after)
    → IsReported played_with contents out after answer
is_reported played_with contents out after moves (Ok over) met is_printed unprinted = reported over moves met is_printed
is_reported played_with contents out after moves (Err fault) met is_printed unprinted = not_reported moves fault met unprinted
