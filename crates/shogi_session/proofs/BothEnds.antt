-- A bridge's lines of play are the first of those that the host at the other end sent.
use Rattle.std.proofs.Common.{◌≡◌, ℕ, ◌++◌, Bool, true, false, List, [], ◌∷◌, Option, Some, None, refl, sym, ap, subst, ◌∙◌, append_assoc}
use Rattle.std.specs.List.{filter, cons_option}
use Rattle.std.proofs.lemmas.List.{append-nil}
use Rattle.std.proofs.lemmas.List.Elements.{filter-append, filter_map-append}
use Rattle.bridge_table.specs.declared.config.Config.{Config}
use Rattle.host_and_sample.specs.declared.config.HostConfig.{HostConfig}
use Rattle.bridge_table.specs.Events.{Event, Out}
use Rattle.host_and_sample.specs.Host.{HostState}
use Rattle.host_and_sample.specs.HostLogs.{HostStep, HostLeads, written, written_moves, after_start}
use Rattle.bridge_table.specs.Logs.{Step, Leads, new, next, from_server, server_lines, passes, following, counted, Taken, is_sound}
use Rattle.session_lines.specs.MoveLines.{is_move_line}
use Rattle.bridge_table.specs.Row.{Row, in_table, unnamed}
use Rattle.bridge_table.specs.Sending.{IsPrefix}
use Rattle.session_lines.specs.ServerLines.{is_start_line}
use Rattle.bridge_table.specs.State.{State}
use Rattle.bridge_table.proofs.Courses.{Steps, Lines, agrees, hears_start}
use Rattle.host_and_sample.proofs.HostGame.{NoStart, none_yet}
use Rattle.host_and_sample.proofs.OneStart.{one_start}
use Rattle.bridge_table.proofs.Onward.{step, counted_in, counted_out}

-- 1. the lines after START:
by_line : (x : Step) (xs : Steps) (o : Option (List ℕ)) (v : Bool) → from_server x ≡ o → passes is_start_line o ≡ v
    → server_lines (following hears_start xs) ≡ after_start (server_lines xs) → server_lines (following hears_start (x ∷ xs)) ≡ after_start (server_lines (x ∷ xs))
by_line x xs None true e f h = absurd (let g : false ≡ true = f in cc)
by_line x xs None false e f h = rw e h
by_line x xs (Some l) true e f h = rw (e, f) refl
by_line x xs (Some l) false e f h = rw (e, f) h

same_lines : (xs : Steps) → server_lines (following hears_start xs) ≡ after_start (server_lines xs)
same_lines [] = refl
same_lines (x ∷ xs) = by_line x xs (from_server x) (passes is_start_line (from_server x)) refl refl (same_lines xs)

abbrev Front : Lines → Lines → Type 0
Front whole back = (front : Lines) × (whole ≡ front ++ back)

front_more : (o : Option (List ℕ)) (ls back : Lines) → Front ls back → Front (cons_option o ls) back
front_more None ls back h = h
front_more (Some l) ls back h = (l ∷ h.0, ap (λ ys. l ∷ ys) h.1)

by_agree : (x : Step) (xs : Steps) (v : Bool) → agrees x ≡ v → Front (server_lines xs) (server_lines (following agrees xs)) → Front (server_lines (x ∷ xs)) (server_lines (following agrees (x ∷ xs)))
by_agree x xs true e h = rw e (front_more (from_server x) (server_lines xs) (server_lines xs) ([], refl))
by_agree x xs false e h = rw e (front_more (from_server x) (server_lines xs) (server_lines (following agrees xs)) h)

-- the lines after AGREE are the last
front_of : (xs : Steps) → Front (server_lines xs) (server_lines (following agrees xs))
front_of [] = ([], refl)
front_of (x ∷ xs) = by_agree x xs (agrees x) refl (front_of xs)

-- 2. prefixes
by_start : (l : List ℕ) (d x : Lines) (v : Bool) → is_start_line l ≡ v → IsPrefix (after_start d) (after_start (d ++ x))
    → IsPrefix (after_start (l ∷ d)) (after_start (l ∷ (d ++ x)))
by_start l d x true e h = rw e (x, refl)
by_start l d x false e h = rw e h

longer : (d x : Lines) → IsPrefix (after_start d) (after_start (d ++ x))
longer [] x = (after_start x, refl)
longer (l ∷ d) x = by_start l d x (is_start_line l) refl (longer d x)

drop_front : (a b : Lines) → NoStart (a ++ b) → NoStart b
drop_front [] b h = h
drop_front (l ∷ a) b h = drop_front a b h.1

take_front : (a b : Lines) → NoStart (a ++ b) → NoStart a
take_front [] b h = tt
take_front (l ∷ a) b h = (h.0, take_front a b h.1)

by_first : (f : List ℕ) (fs d x : Lines) (v : Bool) → is_start_line f ≡ v
    → (NoStart (after_start (fs ++ (d ++ x))) → IsPrefix (after_start d) (after_start (fs ++ (d ++ x))))
    → NoStart (after_start (f ∷ (fs ++ (d ++ x)))) → IsPrefix (after_start d) (after_start (f ∷ (fs ++ (d ++ x))))
by_first f fs d x true e more h =
    let all : NoStart (fs ++ (d ++ x)) = rw e at h in
    let none : after_start d ≡ [] = none_yet d (take_front d x (drop_front fs (d ++ x) all)) in
    (after_start (f ∷ (fs ++ (d ++ x))), ap (λ ls. ls ++ after_start (f ∷ (fs ++ (d ++ x)))) (sym none))
by_first f fs d x false e more h = rw e (more (rw e at h))

-- if START: occurs at most once, the lines after it in a part are the first of those in the whole
inner : (fs d x : Lines) → NoStart (after_start (fs ++ (d ++ x))) → IsPrefix (after_start d) (after_start (fs ++ (d ++ x)))
inner [] d x h = longer d x
inner (f ∷ fs) d x h = by_first f fs d x (is_start_line f) refl (inner fs d x) h

filtered : (a b : Lines) → IsPrefix a b → IsPrefix (filter is_move_line a) (filter is_move_line b)
filtered a b h = (filter is_move_line h.0, ap (filter is_move_line) h.1 ∙ filter-append is_move_line a h.0)

prefix_trans : (a b c : Lines) → IsPrefix a b → IsPrefix b c → IsPrefix a c
prefix_trans a b c h k = (h.0 ++ k.0, k.1 ∙ (ap (λ ls. ls ++ k.0) h.1 ∙ append_assoc a h.0 k.0))

-- 3. the counted steps are the first
abbrev Counts : Steps → State → Type 0
Counts log s = (is_sound s.status ≡ true → counted log ≡ log) × (rest : Steps) × (log ≡ counted log ++ rest)

was_sound : (c : Config) (s : State) (e : Event) (out : Out) (t : State) → Row c s e out t → is_sound t.status ≡ true → is_sound s.status ≡ true
was_sound c s e out t r h =
    elim r [
      | in_table k ↦ ap is_sound k.0
      | unnamed none o n ↦ ap (λ (x : State). is_sound x.status) (sym n) ∙ h
    ]

counts_next : (before : Steps) (x : Step) (s t : State) (v : Bool) → x.status ≡ t.status → is_sound t.status ≡ v → (is_sound t.status ≡ true → is_sound s.status ≡ true)
    → Counts before s → Counts (before ++ x ∷ []) t
counts_next before x s t true z e was h =
    let all = h.0 (was e) in
    let now = counted_in before x (ap is_sound z ∙ e) ∙ ap (λ ys. ys ++ x ∷ []) all in
    ((λ k. now), [], sym (append-nil (counted (before ++ x ∷ [])) ∙ now))
counts_next before x s t false z e was h =
    let now = counted_out before x (ap is_sound z ∙ e) in (
      (λ k. absurd (let f = e in let g = k in cc)),
      h.1 ++ x ∷ [],
      ap (λ ys. ys ++ x ∷ []) h.2 ∙ (append_assoc (counted before) h.1 (x ∷ []) ∙ ap (λ ys. ys ++ (h.1 ++ x ∷ [])) (sym now)),
    )

log_counts : (c : Config) (log : Steps) (s : State) → Leads c log s → Counts log s
log_counts c log s new = ((λ h. refl), [], refl)
log_counts c log u (next before s e out t leads r) =
    counts_next before (step e out t.status) s t (is_sound t.status) refl refl (was_sound c s e out t r) (log_counts c before s leads)

counted_first : (c : Config) (log : Steps) (s : State) → Leads c log s → IsPrefix (server_lines (counted log)) (server_lines log)
counted_first c log s leads =
    let h = log_counts c log s leads in
    (server_lines h.1, ap server_lines h.2 ∙ filter_map-append from_server (counted log) h.1)

-- 4. both ends
started_first : (k : Steps) (w : Lines) → NoStart (after_start w) → IsPrefix (server_lines k) w → IsPrefix (server_lines (following hears_start (following agrees k))) (after_start w)
started_first k w one h =
    let d = server_lines (following agrees k) in
    let f = front_of k in
    let whole : w ≡ f.0 ++ (d ++ h.0) = h.1 ∙ (ap (λ ls. ls ++ h.0) f.1 ∙ append_assoc f.0 d h.0) in
    let part = inner f.0 d h.0 (subst (λ v. NoStart (after_start v)) whole one) in
    subst (λ ls. IsPrefix ls (after_start w)) (sym (same_lines (following agrees k))) (subst (λ v. IsPrefix (after_start d) (after_start v)) (sym whole) part)

pub both_ends : (c : Config) (log : Steps) (s : State) (host : HostConfig) (wrote : List HostStep) (t : HostState)
    → Leads c log s → HostLeads host wrote t → IsPrefix (server_lines log) (written wrote)
    → (taken rest : Lines) → Taken log taken rest → IsPrefix (filter is_move_line taken) (written_moves wrote)
both_ends c log s host wrote t leads hosted h taken rest split =
    let received_first = prefix_trans _ _ _ (counted_first c log s leads) h in
    let started = started_first (counted log) (written wrote) (one_start host wrote t hosted) received_first in
    filtered taken (after_start (written wrote)) (prefix_trans taken _ _ (rest, split.whole) started)
