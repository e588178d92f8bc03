-- A step that faults sends no line, and a session that is over sends none.
use Rattle.std.proofs.Common.{◌≡◌, ◌⊎◌, inl, inr, ◌++◌, Bool, true, false, List, [], ◌∷◌, refl, sym, ap, subst, ◌∙◌}
use Rattle.std.specs.List.{AllByRecursion}
use Rattle.bridge_table.specs.declared.config.Config.{Config}
use Rattle.bridge_table.specs.declared.event.Status.{Status}
use Rattle.bridge_table.specs.declared.event.Status.TheVariants.{Going}
use Rattle.bridge_table.specs.declared.fault.SessionFault.{SessionFault}
use Rattle.bridge_table.specs.Events.{Event, Out, no_lines}
use Rattle.bridge_table.specs.Logs.{Leads, Step, is_sound, new, next}
use Rattle.bridge_table.specs.Row.{TableRow, Row, failed, in_table, unnamed}
use Rattle.bridge_table.specs.Row as row
use Rattle.bridge_table.specs.State.{State}

-- 1. One step
abbrev pub IsSilent : State → Out → State → Type 0
IsSilent s out t = (out ≡ no_lines) × (t ≡ record s { status = t.status })

abbrev GoesOr : State → Out → State → Type 0
GoesOr s out t = (is_sound t.status ≡ true) ⊎ IsSilent s out t

goes : (s u t : State) (out : Out) → t ≡ u → is_sound u.status ≡ true → GoesOr s out t
goes s u t out e sound = inl (ap (λ (x : State). is_sound x.status) e ∙ sound)

fails : (s t : State) (out : Out) (fault : SessionFault) → out ≡ no_lines → t ≡ failed s fault → GoesOr s out t
fails s t out fault o e = inr (o, e ∙ ap (λ (z : Status). record s { status = z }) (sym (ap (λ (x : State). x.status) e)))

row_goes : (c : Config) (s : State) (e : Event) (out : Out) (t : State) → s.status ≡ Going → TableRow c s e out t → GoesOr s out t
row_goes c s e out t going (row.begins a b o q) = goes s _ t out q (ap is_sound going)
row_goes c s e out t going (row.greeted line a b d o q) = goes s _ t out q (ap is_sound going)
row_goes c s e out t going (row.readied line a b d o q) = goes s _ t out q (ap is_sound going)
row_goes c s e out t going (row.login_taken line a b d o q) = goes s _ t out q (ap is_sound going)
row_goes c s e out t going (row.login_refused a b o q) = fails s t out _ o q
row_goes c s e out t going (row.summary_begins a b o q) = goes s _ t out q (ap is_sound going)
row_goes c s e out t going (row.summary_line lines line h h-after a b d f g o q) = goes s _ t out q (ap is_sound going)
row_goes c s e out t going (row.summary_ends h offer a b d o q) = goes s _ t out q (ap is_sound going)
row_goes c s e out t going (row.summary_fails h a b d o q) = fails s t out _ o q
row_goes c s e out t going (row.started offer line asked now a b d f o q) = goes s _ t out q (ap is_sound going)
row_goes c s e out t going (row.rejected offer line a b d o q) = fails s t out _ o q
row_goes c s e out t going (row.engine_moves g line word m a b d f i o q) = goes s _ t out q (ap is_sound going)
row_goes c s e out t going (row.engine_resigns g line a b d f o q) = goes s _ t out q (ap is_sound going)
row_goes c s e out t going (row.engine_wins g line a b d f o q) = goes s _ t out q (ap is_sound going)
row_goes c s e out t going (row.engine_slips g line word a b d f i o q) = goes s _ t out q (ap is_sound going)
row_goes c s e out t going (row.engine_late line word a b d f o q) = goes s _ t out q (ap is_sound going)
row_goes c s e out t going (row.move_refused p line cause a b d f o q) = fails s t out _ o q
row_goes c s e out t going (row.move_unsent p line color m a b d f i o q) = fails s t out _ o q
row_goes c s e out t going (row.move_confirmed p line color m asked now a b d f i j o q) = goes s _ t out q (ap is_sound going)
row_goes c s e out t going (row.ending_stated p line kept a b d f o q) = goes s _ t out q (ap is_sound going)
row_goes c s e out t going (row.reason_stated g f line a b d i o q) = goes s _ t out q (ap is_sound going)
row_goes c s e out t going (row.result_stated g f line outcome a b d o q) = goes s _ t out q (ap is_sound going)
row_goes c s e out t going (row.closes g f outcome a b o q) = goes s _ t out q refl
row_goes c s e out t going (row.engine_gone a b o q) = fails s t out _ o q
row_goes c s e out t going (row.server_gone a b d o q) = fails s t out _ o q
row_goes c s e out t going (row.line_too_long a o q) = fails s t out _ o q

not_sound : (b : Bool) → b ≡ true → b ≡ false → ⊥
not_sound b e f = cc

of_goes : (s : State) (out : Out) (t : State) → is_sound t.status ≡ false → GoesOr s out t → IsSilent s out t
of_goes s out t fault (inl sound) = absurd (not_sound (is_sound t.status) sound fault)
of_goes s out t fault (inr silent) = silent

pub fault_silent : (c : Config) (s t : State) (e : Event) (out : Out) → Row c s e out t → is_sound t.status ≡ false → IsSilent s out t
fault_silent c s t e out (in_table h) fault = of_goes s out t fault (row_goes c s e out t h.0 h.1)
fault_silent c s t e out (unnamed u o q) fault = (o, q ∙ ap (λ (z : Status). record s { status = z }) (sym (ap (λ (x : State). x.status) q)))

pub over_silent : (c : Config) (s t : State) (e : Event) (out : Out) → Row c s e out t → (s.status ≡ Going → ⊥) → (out ≡ no_lines) × (t ≡ s)
over_silent c s t e out (in_table h) over = absurd (over h.0)
over_silent c s t e out (unnamed u o q) over = (o, q)

-- 2. A log
abbrev Steps : Type 0
Steps = List Step

-- a log with one step more is this step after the front, or what follows has this step too
abbrev Splits : Steps → Steps → Steps → Step → Step → Type 0
Splits log before following x y =
    ((following ≡ []) × (x ≡ y)) ⊎ ((rest : Steps) × (following ≡ rest ++ x ∷ []) × (log ≡ before ++ y ∷ rest))

none_following : (bs after : Steps) (y : Step) → [] ≡ bs ++ y ∷ after → ⊥
none_following [] after y e = absurd cc
none_following (b ∷ bs) after y e = absurd cc

splits : (log before following : Steps) (x y : Step) → log ++ x ∷ [] ≡ before ++ y ∷ following → Splits log before following x y
splits [] [] following x y e = let same : x ≡ y = cc in let none : following ≡ [] = cc in inl (none, same)
splits [] (b ∷ bs) following x y e = let none : [] ≡ bs ++ y ∷ following = cc in absurd (none_following bs following y none)
splits (z ∷ zs) [] following x y e =
    let first : z ≡ y = cc in
    let rest : zs ++ x ∷ [] ≡ following = cc in
    inr (zs, sym rest, ap (λ w. w ∷ zs) first)
splits (z ∷ zs) (b ∷ bs) following x y e =
    let first : z ≡ b = cc in
    let rest : zs ++ x ∷ [] ≡ bs ++ y ∷ following = cc in
    elim (splits zs bs following x y rest) [
      | inl h ↦ inl h
      | inr h ↦ inr (h.0, h.1, ap (λ w. w ∷ zs) first ∙ ap (λ ws. b ∷ ws) h.2)
    ]

abbrev pub AreSilent : Status → Steps → Type 0
AreSilent status steps = AllByRecursion (λ later. (later.out ≡ no_lines) × (later.status ≡ status)) steps

silent_more : (status : Status) (steps : Steps) (x : Step) → AreSilent status steps → (x.out ≡ no_lines) × (x.status ≡ status) → AreSilent status (steps ++ x ∷ [])
silent_more status [] x all one = (one, tt)
silent_more status (y ∷ ys) x all one = (all.0, silent_more status ys x all.1 one)

abbrev Stays : Status → Steps → State → Type 0
Stays status rest t = AreSilent status rest × (t.status ≡ status)

first_over : (y : Step) (u : State) (rest : Steps) → rest ≡ [] → u.status ≡ y.status → Stays y.status rest u
first_over y u rest none same = (subst (AreSilent y.status) (sym none) tt, same)

later_over : (y x : Step) (u : State) (following rest : Steps) → following ≡ rest ++ x ∷ [] → AreSilent y.status (rest ++ x ∷ []) → u.status ≡ y.status
    → Stays y.status following u
later_over y x u following rest e all same = (subst (AreSilent y.status) (sym e) all, same)

ever : (c : Config) (log : Steps) (t : State) → Leads c log t → (before rest : Steps) (y : Step) → log ≡ before ++ y ∷ rest → (y.status ≡ Going → ⊥)
    → Stays y.status rest t
ever c log t new before rest y e over = absurd (none_following before rest y e)
ever c log t (next front s event out u leads step) before rest y e over =
    elim (splits front before rest (record { event = event; out = out; status = u.status }) y e) [
      | inl h ↦ first_over y u rest h.0 (ap (λ (w : Step). w.status) h.1)
      | inr h ↦ (
          let kept = ever c front s leads before h.0 y h.2 over in
          let still = over_silent c s u event out step (λ going. over (sym kept.1 ∙ going)) in
          let status = ap (λ (w : State). w.status) still.1 ∙ kept.1 in
          later_over y (record { event = event; out = out; status = u.status }) u rest h.0 h.1 (silent_more y.status h.0 _ kept.0 (still.0, status)) status)
    ]

pub silent_ever : (c : Config) (before rest : Steps) (y : Step) (t : State) → Leads c (before ++ y ∷ rest) t → (y.status ≡ Going → ⊥) → AreSilent y.status rest
silent_ever c before rest y t leads over = (ever c (before ++ y ∷ rest) t leads before rest y refl over).0
