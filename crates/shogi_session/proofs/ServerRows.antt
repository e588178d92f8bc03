-- How the answers to lines of the server before a game are rows of the table.
use Rattle.std.proofs.Common.{◌≡◌, ℕ, ◌++◌, ◌⊎◌, inl, inr, Result, Ok, Err, true, false, List, [], ◌∷◌, Option, None, codes, refl, sym, ap, subst, ◌∙◌}
use Rattle.std.specs.Prelude.{IfOk, OnOk, OnErr, MatchResult}
use Rattle.csa_record.specs.Game.{Game, Ended}
use Rattle.bridge_table.specs.declared.config.Config.{Config}
use Rattle.bridge_table.specs.declared.event.Out.{Out as Answered}
use Rattle.bridge_table.specs.declared.event.Status.{Status}
use Rattle.bridge_table.specs.declared.event.Status.TheVariants.{Going, Done, Failed}
use Rattle.bridge_table.specs.declared.fault.SessionFault.TheVariants.{LoginRefused, Rejected, BadSummary, ServerGone, LineTooLong}
use Rattle.shogi_session.specs.declared.offer.GameOffer.{GameOffer}
use Rattle.shogi_session.specs.declared.phase.Play.{Play as Own}
use Rattle.shogi_session.specs.declared.phase.Phase.{Phase}
use Rattle.shogi_session.specs.declared.phase.Phase.TheVariants as phases
use Rattle.shogi_session.specs.declared.phase.GameStage.{GameStage}
use Rattle.shogi_session.specs.declared.phase.GameStage.TheVariants as stages
use Rattle.shogi_session.specs.declared.phase.EndReport.{EndReport}
use Rattle.session_lines.specs.declared.server_words.GameResult.{GameResult}
use Rattle.bridge_table.specs.declared.state.ClientState.TheVariants as clients
use Rattle.bridge_table.specs.declared.state.EngineState.{EngineState}
use Rattle.bridge_table.specs.Asking.{Asks}
use Rattle.bridge_table.specs.Events.{Event, begin, server_line, server_end, engine_long, server_long}
use Rattle.bridge_table.specs.GameSoFar.{game_of}
use Rattle.bridge_table.specs.Hearing.{content_after}
use Rattle.shogi_session.specs.Offers.{offer_in}
use Rattle.shogi_session.specs.Phases.{Reacts, Stays, Same, PlayGoesOn, IsOpen, IsPhase, begun, client_of, going, match_in, play_client, staged}
use Rattle.bridge_table.specs.Promises.{before}
use Rattle.bridge_table.specs.Row.{IsUnnamed}
use Rattle.bridge_table.specs.Row as row
use Rattle.session_lines.specs.ServerLines.{is_login_ok, is_start_line, is_reject_line}
use Rattle.bridge_table.specs.State.{Match, Client, logging_in, before_summary, summary, agreeing, playing, client_state, slip_of, match_of}
use Rattle.bridge_table.specs.Summary.{SummaryContent, no_content, CountsAs, Offer, TellsOffer}
use Rattle.session_lines.specs.Texts.{ended_line}
use Rattle.bridge_table.proofs.AlwaysAsks.{offer_plain, offer_legal}
use Rattle.session_lines.proofs.OneLine.{one_text}
use Rattle.bridge_table.proofs.Counting.{counts_more}
use Rattle.shogi_session.proofs.EngineRows.{by_row, by_none, stays}

abbrev pub Silent : Answered → Status → Type 0
Silent o z = (o.to_engine ≡ []) × (o.to_server ≡ []) × (o.status ≡ z)

-- 1. nothing changes
pub quiet : (c : Config) (engine : EngineState) (known client client_after : Client) (e : Event) (o : Answered)
    → IsUnnamed c (going engine known) e → client ≡ known → client_after ≡ client → Silent o Going → Reacts c engine client e o engine client_after
quiet c engine known client client_after e o u at same h =
    subst (λ x. Reacts c engine client e o engine x) (sym same)
    (by_none c engine client e o (subst (λ x. IsUnnamed c (going engine x) e) (sym at) u) h.0 h.1 h.2)

-- 2. LOGIN
pub login_taken : (c : Config) (engine : EngineState) (client : Client) (line : List ℕ) (o : Answered) → client ≡ logging_in → is_login_ok line ≡ true
    → Silent o Going → Reacts c engine client (server_line line) o engine before_summary
login_taken c engine client line o at ok h =
    by_row c engine engine client before_summary (server_line line) o _ Going (row.login_taken line at refl ok refl refl) h.2 h.0 h.1

pub login_refused : (c : Config) (engine : EngineState) (client client_after : Client) (line : List ℕ) (o : Answered) → client ≡ logging_in
    → line ≡ codes "LOGIN:incorrect" → client_after ≡ client → Silent o (Failed LoginRefused) → Reacts c engine client (server_line line) o engine client_after
login_refused c engine client client_after line o at incorrect same h =
    subst (λ x. Reacts c engine client (server_line line) o engine x) (sym same)
    (by_row c engine engine client client (server_line line) o _ (Failed LoginRefused) (row.login_refused at (ap server_line incorrect) refl refl) h.2 h.0 h.1)

-- 3. the summary
pub summary_begun : (c : Config) (engine : EngineState) (client : Client) (h : SummaryContent) (line : List ℕ) (o : Answered) → client ≡ before_summary
    → line ≡ codes "BEGIN Game_Summary" → h ≡ no_content → Silent o Going → Reacts c engine client (server_line line) o engine (summary h)
summary_begun c engine client h line o at begins nothing q =
    subst (λ x. Reacts c engine client (server_line line) o engine (summary x)) (sym nothing)
    (by_row c engine engine client (summary no_content) (server_line line) o _ Going (row.summary_begins at (ap server_line begins) refl refl) q.2 q.0 q.1)

abbrev pub Counts : SummaryContent → Type 0
Counts h = (lines : List (List ℕ)) × CountsAs lines h

pub counts_after : (h new : SummaryContent) (line : List ℕ) → Counts h → new ≡ content_after h line → Counts new
counts_after h new line counts e = (counts.0 ++ line ∷ [], subst (CountsAs (counts.0 ++ line ∷ [])) (sym e) (counts_more counts.0 line h counts.1))

pub summary_read : (c : Config) (engine : EngineState) (h new : SummaryContent) (line : List ℕ) (o : Answered) → (line ≡ codes "END Game_Summary" → ⊥)
    → Counts h → new ≡ content_after h line → Silent o Going → Reacts c engine (summary h) (server_line line) o engine (summary new)
unfolding counts_after
summary_read c engine h new line o goes counts e q =
    by_row c engine engine (summary h) (summary new) (server_line line) o _ Going
    (row.summary_line counts.0 line h new refl refl goes counts.1 (counts_after h new line counts e).1 refl refl) q.2 q.0 q.1

pub summary_failed : (c : Config) (engine : EngineState) (client client_after : Client) (h : SummaryContent) (o : Answered) → client ≡ summary h
    → ((offer : Offer) → TellsOffer h offer → ⊥) → client_after ≡ client → Silent o (Failed BadSummary)
    → Reacts c engine client (server_line (codes "END Game_Summary")) o engine client_after
summary_failed c engine client client_after h o at none same q =
    subst (λ x. Reacts c engine client (server_line (codes "END Game_Summary")) o engine x) (sym same)
    (by_row c engine engine client client _ o _ (Failed BadSummary) (row.summary_fails h at refl none refl refl) q.2 q.0 q.1)

unended : (g : Game) (e : Option Ended) → e ≡ None → g.ending ≡ e → record g { ending = None } ≡ g
unended g e none is = ap (λ (x : Option Ended). record g { ending = x }) (sym (is ∙ none))

pub summary_stated : (c : Config) (engine : EngineState) (client : Client) (h : SummaryContent) (o : GameOffer) (out : Answered) → client ≡ summary h
    → TellsOffer h (offer_in o) → out.to_engine ≡ [] → out.to_server ≡ ended_line (codes "AGREE") → out.status ≡ Going
    → Reacts c engine client (server_line (codes "END Game_Summary")) out engine (agreeing (offer_in o))
summary_stated c engine client h o out at tells q r s =
    by_row c engine engine client (agreeing (offer_in o)) _ out _ Going (row.summary_ends h (offer_in o) at refl tells refl refl) s q (r ∙ one_text (codes "AGREE"))

pub offered : (h : SummaryContent) (o : GameOffer) → TellsOffer h (offer_in o) → IsOpen o.game
offered h o tells = record { none = (offer_plain _ _ tells.position).0; legal = offer_legal _ _ tells.position }

-- 4. AGREE
pub rejected : (c : Config) (engine : EngineState) (offer : Offer) (line : List ℕ) (o : Answered)
    → is_reject_line line ≡ true → Silent o (Failed Rejected) → Reacts c engine (agreeing offer) (server_line line) o engine (agreeing offer)
rejected c engine offer line o reject h =
    by_row c engine engine (agreeing offer) (agreeing offer) (server_line line) o _ (Failed Rejected) (row.rejected offer line refl refl reject refl refl) h.2 h.0 h.1

-- the match at the start is that of the offer
begun_match : (o : GameOffer) → IsOpen o.game → match_in (begun o) ≡ match_of (offer_in o)
begun_match o i = ap (λ (x : Game). record { client = o.client; game = x; slip = false }) (unended o.game o.game.ending i.none refl)

pub started : (c : Config) (engine engine_after : EngineState) (o : GameOffer) (line : List ℕ) (out : Answered) → IsOpen o.game
    → is_start_line line ≡ true → PlayGoesOn c engine (begun o) (ended_line (codes "usinewgame")) out engine_after (begun o)
    → Reacts c engine (agreeing (offer_in o)) (server_line line) out engine_after (play_client (begun o))
started c engine engine_after o line out i start g =
    let same = begun_match o i in
    subst (λ x. Reacts c engine (agreeing (offer_in o)) (server_line line) out engine_after (playing x)) (sym same)
    (by_row c engine engine_after (agreeing (offer_in o)) (playing (match_of (offer_in o))) (server_line line) out _ Going
    (row.started (offer_in o) line g.asked.0 engine_after refl refl start
    (subst (λ x. Asks c x engine g.asked.0 engine_after) same g.asked.1) refl refl)
    g.status (g.to_engine ∙ (ap (λ x. ended_line (codes "usinewgame") ++ x) g.asked.2 ∙ refl)) g.to_server)

pub started_from : (c : Config) (engine engine_after : EngineState) (x after : Phase) (o : GameOffer) (line : List ℕ) (out : Answered) → x ≡ phases.Agreeing o → IsPhase x
    → after ≡ phases.InGame (begun o) → is_start_line line ≡ true → PlayGoesOn c engine (begun o) (ended_line (codes "usinewgame")) out engine_after (begun o)
    → Reacts c engine (client_of x) (server_line line) out engine_after (client_of after)
started_from c engine engine_after x after o line out at keeps is start g =
    subst (λ y. Reacts c engine (client_of y) (server_line line) out engine_after (client_of after)) (sym at)
    (subst (λ y. Reacts c engine (agreeing (offer_in o)) (server_line line) out engine_after (client_of y)) (sym is)
    (started c engine engine_after o line out (subst IsPhase at keeps) start g))

pub first_asked : {E : Type 0} (r : Result Answered E) (c : Config) (engine engine_after : EngineState) (p : Own) (lines whole : List ℕ) → lines ≡ whole
    → IfOk r (λ o. (q : Own) → q.client ≡ p.client → q.game ≡ p.game → PlayGoesOn c engine q lines o engine_after (record q { stage = stages.Playing }))
    → IfOk r (λ o. PlayGoesOn c engine p whole o engine_after (record p { stage = stages.Playing }))
first_asked (Ok o) c engine engine_after p lines whole same h =
    subst (λ x. PlayGoesOn c engine p x o engine_after (record p { stage = stages.Playing })) same (h p refl refl)
first_asked (Err f) c engine engine_after p lines whole same h = h

-- 5. the end
pub logged_out : (c : Config) (engine : EngineState) (p : Own) (stated : EndReport) (res : GameResult) (line : List ℕ) (o : Answered)
    → p.stage ≡ stages.Closing stated res → line ≡ codes "LOGOUT:completed" → Silent o Done
    → Reacts c engine (play_client p) (server_line line) o engine (play_client (record p { stage = stages.Ended stated res }))
logged_out c engine p stated res line o at completed h =
    by_row c engine engine (play_client p) _ (server_line line) o _ Done
    (row.closes _ _ _ (ap (staged (match_in p) p.game) at) (inl (ap server_line completed)) refl refl) h.2 h.0 h.1

pub hung_up : (c : Config) (engine : EngineState) (p : Own) (stated : EndReport) (res : GameResult) (o : Answered)
    → p.stage ≡ stages.Closing stated res → Silent o Done
    → Reacts c engine (play_client p) server_end o engine (play_client (record p { stage = stages.Ended stated res }))
hung_up c engine p stated res o at h =
    by_row c engine engine (play_client p) _ server_end o _ Done
    (row.closes _ _ _ (ap (staged (match_in p) p.game) at) (inr refl) refl refl) h.2 h.0 h.1

pub or_stays : {E : Type 0} (r : Result Answered E) (P : Answered → Type 0) (c : Config) (engine engine_after : EngineState) (client client_after : Client) (e : Event)
    → MatchResult r P (λ f. Same engine client engine_after client_after) → MatchResult r P (λ f. Stays c engine client e engine_after client_after)
or_stays (Ok o) P c engine engine_after client client_after e h = h
or_stays (Err f) P c engine engine_after client client_after e h = stays c engine engine_after client client_after e h

-- 6. faults
pub server_gone : (c : Config) (engine : EngineState) (client client_after : Client) (o : Answered) → (client_state client ≡ clients.Closing → ⊥)
    → (client_state client ≡ clients.Ended → ⊥) → client_after ≡ client → Silent o (Failed ServerGone) → Reacts c engine client server_end o engine client_after
server_gone c engine client client_after o other going same h =
    subst (λ x. Reacts c engine client server_end o engine x) (sym same)
    (by_row c engine engine client client server_end o _ (Failed ServerGone) (row.server_gone other going refl refl refl) h.2 h.0 h.1)

pub too_long : (c : Config) (engine : EngineState) (client : Client) (e : Event) (o : Answered) → (e ≡ engine_long) ⊎ (e ≡ server_long)
    → Silent o (Failed LineTooLong) → Reacts c engine client e o engine client
too_long c engine client e o long h =
    by_row c engine engine client client e o _ (Failed LineTooLong) (row.line_too_long long refl refl) h.2 h.0 h.1

stage_not_over : (g : Match) (game : Game) (stage : GameStage) → ((t : EndReport) (r : GameResult) → stage ≡ stages.Closing t r → ⊥)
    → ((t : EndReport) (r : GameResult) → stage ≡ stages.Ended t r → ⊥)
    → (client_state (staged g game stage) ≡ clients.Closing → ⊥) × (client_state (staged g game stage) ≡ clients.Ended → ⊥)
stage_not_over g game stages.Playing h k = (λ e. cc, λ e. cc)
stage_not_over g game (stages.Sent a) h k = (λ e. cc, λ e. cc)
stage_not_over g game (stages.Reason t) h k = (λ e. cc, λ e. cc)
stage_not_over g game (stages.Closing t r) h k = absurd (h t r refl)
stage_not_over g game (stages.Ended t r) h k = absurd (k t r refl)

pub play_not_over : (p : Own) → ((t : EndReport) (r : GameResult) → p.stage ≡ stages.Closing t r → ⊥)
    → ((t : EndReport) (r : GameResult) → p.stage ≡ stages.Ended t r → ⊥)
    → (client_state (play_client p) ≡ clients.Closing → ⊥) × (client_state (play_client p) ≡ clients.Ended → ⊥)
play_not_over p h k = stage_not_over (match_in p) p.game p.stage h k

pub phase_not_over : (x : Phase) → ((p : Own) → x ≡ phases.InGame p → ⊥)
    → (client_state (client_of x) ≡ clients.Closing → ⊥) × (client_state (client_of x) ≡ clients.Ended → ⊥)
phase_not_over phases.Idle h = (λ e. cc, λ e. cc)
phase_not_over phases.LoggingIn h = (λ e. cc, λ e. cc)
phase_not_over phases.BeforeSummary h = (λ e. cc, λ e. cc)
phase_not_over (phases.Summary from_server) h = (λ e. cc, λ e. cc)
phase_not_over (phases.Agreeing o) h = (λ e. cc, λ e. cc)
phase_not_over (phases.InGame p) h = absurd (h p refl)

-- 7. summaries
pub agreed_phase : {E : Type 0} (r : Result Answered E) (after : Phase) (o : GameOffer) → IsOpen o.game → OnOk r (after ≡ phases.Agreeing o)
    → OnErr r (after ≡ phases.BeforeSummary) → IsPhase after
agreed_phase (Ok a) after o open-game p q = subst IsPhase (sym p) open-game
agreed_phase (Err f) after o open-game p q = subst IsPhase (sym q) tt

pub summary_agreed : {E : Type 0} (r : Result Answered E) (c : Config) (engine : EngineState) (client : Client) (h : SummaryContent) (o : GameOffer) (after : Phase)
    → client ≡ summary h → TellsOffer h (offer_in o) → OnOk r (after ≡ phases.Agreeing o) → IfOk r (λ out. out.to_engine ≡ [])
    → IfOk r (λ out. out.to_server ≡ ended_line (codes "AGREE")) → IfOk r (λ out. out.status ≡ Going)
    → IfOk r (λ out. Reacts c engine client (server_line (codes "END Game_Summary")) out engine (client_of after))
summary_agreed (Ok out) c engine client h o after at tells p q s z =
    subst (λ x. Reacts c engine client (server_line (codes "END Game_Summary")) out engine (client_of x)) (sym p)
    (summary_stated c engine client h o out at tells q s z)
summary_agreed (Err f) c engine client h o after at tells p q s z = tt

pub ended_or : {E : Type 0} (r : Result Answered E) (c : Config) (engine : EngineState) (client client_after : Client) (h : SummaryContent) (line : List ℕ) → client ≡ summary h
    → line ≡ codes "END Game_Summary"
    → IfOk r (λ o. Reacts c engine (summary h) (server_line (codes "END Game_Summary")) o engine client_after) → OnErr r (client_after ≡ before_summary)
    → MatchResult r (λ o. Reacts c engine client (server_line line) o engine client_after) (λ f. Stays c engine client (server_line line) engine client_after)
ended_or (Ok o) c engine client client_after h line here at k lost =
    subst (λ x. Reacts c engine x (server_line line) o engine client_after) (sym here)
    (subst (λ x. Reacts c engine (summary h) (server_line x) o engine client_after) (sym at) k)
ended_or (Err f) c engine client client_after h line here at k lost = record {
  engine_stays = refl;
  client_stays = ap client_state lost ∙ sym (ap client_state here);
  slip_stays = ap slip_of lost ∙ sym (ap slip_of here);
  game = before (ap game_of lost ∙ sym (ap game_of here));
}

pub received_or : {E : Type 0} (r : Result Answered E) (c : Config) (engine : EngineState) (client : Client) (h new : SummaryContent) (line : List ℕ) → client ≡ summary h
    → IfOk r (λ o. (d : Config) (x : EngineState) → Reacts d x (summary h) (server_line line) o x (summary new))
    → MatchResult r (λ o. Reacts c engine client (server_line line) o engine (summary new)) (λ f. Stays c engine client (server_line line) engine (summary new))
received_or (Ok o) c engine client h new line at k = subst (λ x. Reacts c engine x (server_line line) o engine (summary new)) (sym at) (k c engine)
received_or (Err f) c engine client h new line at k = record {
  engine_stays = refl;
  client_stays = sym (ap client_state at);
  slip_stays = sym (ap slip_of at);
  game = before (sym (ap game_of at));
}

-- 8. the beginning
pub begun_or : {E : Type 0} (r : Result Answered E) (c : Config) (engine engine_after : EngineState) (client : Client)
    → MatchResult r (λ o. Reacts c engine client begin o engine_after client) (λ f. engine_after ≡ engine)
    → MatchResult r (λ o. Reacts c engine client begin o engine_after client) (λ f. Stays c engine client begin engine_after client)
begun_or (Ok o) c engine engine_after client h = h
begun_or (Err f) c engine engine_after client h = stays c engine engine_after client client begin (h, refl)
