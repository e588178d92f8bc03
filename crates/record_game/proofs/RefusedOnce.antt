-- Bytes are refused in one way at most.
use Rattle.std.proofs.Common.{◌≡◌, ℕ, ◌+◌, List, [], ◌∷◌, ◌++◌, length, Option, Some, None, Result, Ok, Err, refl, sym, ap, ◌∙◌, append_assoc, subst, arith, inl, inr}
use Rattle.std.proofs.lemmas.List.{append-nil}
use Rattle.shogi_board.specs.declared.color.Color.{Color}
use Rattle.shogi_board.specs.declared.setup.SetupFault.{SetupFault}
use Rattle.shogi_board.specs.Layout.{Layout}
use Rattle.shogi_board.specs.Placed.{Placed}
use Rattle.shogi_board.specs.Setup.{position_of}
use Rattle.shogi_rules.specs.declared.line.PlayFault.{PlayFault}
use Rattle.shogi_rules.specs.declared.line.PlayFault.TheVariants as playing
use Rattle.shogi_board.specs.declared.moves.Move.{Move}
use Rattle.shogi_rules.specs.Play as plays
use Rattle.shogi_rules.specs.Positions.{Played}
use Rattle.shogi_rules.proofs.Once.{one-answer}
use Rattle.csa_cutting.specs.Cut.{TextUnit, IsCut, statement_bytes}
use Rattle.csa_text.specs.Saying.{Saying, version, name, header, even, rank, pieces, turn, walked, time, ending}
use Rattle.csa_cutting.proofs.Once.{statements_once}
use Rattle.csa_text.proofs.Sayings.{same_saying}
use Rattle.record_game.specs.declared.fault.OrderFault.{OrderFault}
use Rattle.record_game.specs.declared.fault.Why.{Why}
use Rattle.record_game.specs.Order.{order_fault}
use Rattle.record_game.specs.LaidOut.{laid_out}
use Rattle.record_game.specs.Refused.{Finishes, IsLineOf, IsJudged, AnswersInOrder, AnswersAfter, AnswersItem, Fault, Faultless, Refused, RefusedAt}
use Rattle.record_game.specs.Tells.{IsSpelt}

-- an item is answered in one way
finishes_once : (laid : Result Layout SetupFault) (color : Color) (a b : Option Why) → Finishes laid color a → Finishes laid color b → a ≡ b
finishes_once (Err fault) color a b p q = absurd p
finishes_once (Ok s) color None None p q = refl
finishes_once (Ok s) color None (Some w) p q = absurd (p q.0)
finishes_once (Ok s) color (Some v) None p q = absurd (q p.0)
finishes_once (Ok s) color (Some v) (Some w) p q = ap Some (p.1 ∙ sym q.1)

judged_once : (played : Option PlayFault) (a b : Option Why) → IsJudged played a → IsJudged played b → a ≡ b
judged_once None a b p q = p ∙ sym q
judged_once (Some (playing.Broken r)) a b p q = p ∙ sym q
judged_once (Some playing.TooManyMoves) a b p q = absurd p
judged_once (Some playing.OutOfMemory) a b p q = absurd p

line_same : (k l : Played) → k.start ≡ l.start → k.moves ≡ l.moves → k ≡ l
line_same k l p q =
    let first : k ≡ record { start = l.start; moves = k.moves } = ap (λ (s : Placed). record k { start = s }) p in
    first ∙ ap (λ (ms : List Move). record l { moves = ms }) q

line_once : (before : List Saying) (k l : Played) → IsLineOf before k → IsLineOf before l → k ≡ l
line_once before k l p q =
    let laid : Ok p.layout ≡ Ok q.layout = sym p.laid ∙ q.laid in
    let layouts : p.layout ≡ q.layout = cc in
    let listed : p.side ∷ [] ≡ q.side ∷ [] = sym p.side_is ∙ q.side_is in
    let side : p.side ≡ q.side = cc in
    line_same k l (p.start ∙ (ap (λ s. position_of s p.side) layouts ∙ (ap (λ c. position_of q.layout c) side ∙ sym q.start))) (p.moves_are ∙ sym q.moves_are)

in_order_once : (before : List Saying) (s : Saying) (a b : Option Why) → AnswersInOrder before s a → AnswersInOrder before s b → a ≡ b
in_order_once before version a b p q = p ∙ sym q
in_order_once before (name color text) a b p q = p ∙ sym q
in_order_once before (header key text) a b p q = p ∙ sym q
in_order_once before (even pairs) a b p q = p ∙ sym q
in_order_once before (rank number cells) a b p q = p ∙ sym q
in_order_once before (pieces color pairs) a b p q = p ∙ sym q
in_order_once before (turn color) a b p q = finishes_once (laid_out before) color a b p q
in_order_once before (walked color m) a b (k, of_k, f, played, judged) (l, of_l, g, other, stated) =
    let lines = line_once before k l of_k of_l in
    let moved : plays.Answers k color m g = rw lines other in
    let same = one-answer k color m f g played moved in
    judged_once f a b judged (rw same stated)
in_order_once before (time t) a b p q = p ∙ sym q
in_order_once before (ending e) a b p q = p ∙ sym q

after_once : (fault : Option OrderFault) (before : List Saying) (s : Saying) (a b : Option Why) → AnswersAfter fault before s a → AnswersAfter fault before s b → a ≡ b
after_once None before s a b p q = in_order_once before s a b p q
after_once (Some fault) before s a b p q = p ∙ sym q

pub answers_once : (before : List Saying) (s : Saying) (a b : Option Why) → AnswersItem before s a → AnswersItem before s b → a ≡ b
answers_once before s a b p q = after_once (order_fault before s) before s a b p q

-- what has a fault is not taken
fault_or_fine : (before : List Saying) (u : TextUnit) (why : Why) (s : Saying) → Fault before u why → IsSpelt u s → AnswersItem before s None → ⊥
fault_or_fine before u why s fault spelt fine =
    elim fault [
      | inl long ↦ let few = spelt.0 in let many = long.0 in omega arith
      | inr other ↦ elim other [
        | inl unspelt ↦ unspelt.1 s spelt.1
        | inr late ↦
            let same : late.0 ≡ s = same_saying (statement_bytes u.bytes) late.0 s late.1.1 spelt.1 in
            let some : AnswersItem before s (Some why) = rw same at late.2 in
            let clash : None ≡ Some why = answers_once before s None (Some why) fine some in
            cc
      ]
    ]

fault_once : (before : List Saying) (u : TextUnit) (a b : Why) → Fault before u a → Fault before u b → a ≡ b
fault_once before u a b p q =
    elim p [
      | inl long ↦ elim q [
        | inl too ↦ long.1 ∙ sym too.1
        | inr other ↦ elim other [
          | inl unspelt ↦ let few = unspelt.0 in let many = long.0 in absurd (omega arith)
          | inr late ↦ let few = late.1.0 in let many = long.0 in absurd (omega arith)
        ]
      ]
      | inr other ↦ elim other [
        | inl unspelt ↦ elim q [
          | inl long ↦ let few = unspelt.0 in let many = long.0 in absurd (omega arith)
          | inr more ↦ elim more [
            | inl too ↦ unspelt.2 ∙ sym too.2
            | inr late ↦ absurd (unspelt.1 late.0 late.1.1)
          ]
        ]
        | inr late ↦ elim q [
          | inl long ↦ let few = late.1.0 in let many = long.0 in absurd (omega arith)
          | inr more ↦ elim more [
            | inl unspelt ↦ absurd (unspelt.1 late.0 late.1.1)
            | inr too ↦
                let same : late.0 ≡ too.0 = same_saying (statement_bytes u.bytes) late.0 too.0 late.1.1 too.1.1 in
                let some : AnswersItem before late.0 (Some b) = rw same too.2 in
                let both : Some a ≡ Some b = answers_once before late.0 (Some a) (Some b) late.2 some in
                cc
          ]
        ]
      ]
    ]

-- statements without a fault have none at any place
never : (before : List Saying) (front : List TextUnit) (u : TextUnit) (following : List TextUnit) (ss all : List Saying) (why : Why) → Faultless before (front ++ u ∷ following) all → Faultless before front ss → Fault (before ++ ss) u why → ⊥
never before [] u following [] [] why whole f fault = absurd whole
never before [] u following [] (s ∷ all) why whole f fault =
    fault_or_fine before u why s (subst (λ b. Fault b u why) (append-nil before) fault) whole.0 whole.1
never before [] u following (t ∷ ts) all why whole f fault = absurd f
never before (v ∷ vs) u following [] all why whole f fault = absurd f
never before (v ∷ vs) u following (t ∷ ts) [] why whole f fault = absurd whole
never before (v ∷ vs) u following (t ∷ ts) (s ∷ all) why whole f fault =
    let same : s ≡ t = same_saying (statement_bytes v.bytes) s t whole.0.1 f.0.1 in
    let rest : Faultless (before ++ t ∷ []) (vs ++ u ∷ following) all = subst (λ x. Faultless (before ++ x ∷ []) (vs ++ u ∷ following) all) same whole.2 in
    never (before ++ t ∷ []) vs u following ts all why rest f.2 (subst (λ b. Fault b u why) (sym (append_assoc before (t ∷ []) ts)) fault)

-- the first fault is unique
record SameFault (a b : List TextUnit) (u v : TextUnit) (w x : Why) : Type 0 where
  pub count : length a ≡ length b
  pub unit : u ≡ v
  pub why : w ≡ x

first_fault_once : (before : List Saying) (a b : List TextUnit) (u v : TextUnit) (c d : List TextUnit) (ss ts : List Saying) (w x : Why) → a ++ u ∷ c ≡ b ++ v ∷ d → Faultless before a ss → Faultless before b ts → Fault (before ++ ss) u w → Fault (before ++ ts) v x → SameFault a b u v w x
first_fault_once before [] [] u v c d [] [] w x e f g p q =
    let same : u ≡ v = cc in
    let other : Fault before u x = rw same (subst (λ b. Fault b v x) (append-nil before) q) in
    record { count = refl; unit = same; why = fault_once before u w x (subst (λ b. Fault b u w) (append-nil before) p) other }
first_fault_once before [] [] u v c d [] (t ∷ ts) w x e f g p q = absurd g
first_fault_once before [] [] u v c d (s ∷ ss) ts w x e f g p q = absurd f
first_fault_once before [] (n ∷ ns) u v c d [] [] w x e f g p q = absurd g
first_fault_once before [] (n ∷ ns) u v c d [] (t ∷ ts) w x e f g p q =
    let same : n ≡ u = cc in
    absurd (fault_or_fine before u w t (subst (λ b. Fault b u w) (append-nil before) p) (rw same at g.0) g.1)
first_fault_once before [] (n ∷ ns) u v c d (s ∷ ss) ts w x e f g p q = absurd f
first_fault_once before (m ∷ ms) [] u v c d [] ts w x e f g p q = absurd f
first_fault_once before (m ∷ ms) [] u v c d (s ∷ ss) [] w x e f g p q =
    let same : m ≡ v = cc in
    absurd (fault_or_fine before v x s (subst (λ b. Fault b v x) (append-nil before) q) (rw same at f.0) f.1)
first_fault_once before (m ∷ ms) [] u v c d (s ∷ ss) (t ∷ ts) w x e f g p q = absurd g
first_fault_once before (m ∷ ms) (n ∷ ns) u v c d [] ts w x e f g p q = absurd f
first_fault_once before (m ∷ ms) (n ∷ ns) u v c d (s ∷ ss) [] w x e f g p q = absurd g
first_fault_once before (m ∷ ms) (n ∷ ns) u v c d (s ∷ ss) (t ∷ ts) w x e f g p q =
    let head : m ≡ n = cc in
    let rest : ms ++ u ∷ c ≡ ns ++ v ∷ d = cc in
    let spelt : IsSpelt m t = rw head g.0 in
    let same : t ≡ s = same_saying (statement_bytes m.bytes) t s spelt.1 f.0.1 in
    let others : Faultless (before ++ s ∷ []) ns ts = subst (λ y. Faultless (before ++ y ∷ []) ns ts) same g.2 in
    let here : Fault ((before ++ s ∷ []) ++ ss) u w = subst (λ b. Fault b u w) (sym (append_assoc before (s ∷ []) ss)) p in
    let there : Fault ((before ++ s ∷ []) ++ ts) v x =
    subst (λ b. Fault b v x) (ap (λ y. before ++ y ∷ ts) same ∙ sym (append_assoc before (s ∷ []) ts)) q in
    let more = first_fault_once (before ++ s ∷ []) ms ns u v c d ss ts w x rest f.2 others here there in
    record { count = omega (arith, more.count); unit = more.unit; why = more.why }

-- a record that is refused at a statement cannot be cut without a fault
refused_at_whole : (source : List ℕ) (n o : ℕ) (why : Why) (statements : List TextUnit) (sayings : List Saying) → RefusedAt source n o why → IsCut source statements → Faultless [] statements sayings → ⊥
refused_at_whole source n o why statements sayings r cut whole =
    let same : statements ≡ r.front ++ r.unit ∷ r.following = statements_once _ _ statements _ cut r.cut in
    never [] r.front r.unit r.following r.sayings sayings why (rw same at whole) r.faultless r.fault

pub refused_once : (source : List ℕ) (n o m p : ℕ) (v w : Why) → Refused source n o v → Refused source m p w → (m ≡ n) × (p ≡ o) × (w ≡ v)
refused_once source n o m p v w r s =
    elim r [
      | inl at ↦ elim s [
        | inl too ↦
            let cuts : at.front ++ at.unit ∷ at.following ≡ too.front ++ too.unit ∷ too.following = statements_once _ _ _ _ at.cut too.cut in
            let same = first_fault_once [] at.front too.front at.unit too.unit at.following too.following at.sayings too.sayings v w cuts at.faultless too.faultless at.fault too.fault in
            (omega (arith, same.count, at.number_is, too.number_is), too.place ∙ ap (λ (u : TextUnit). u.offset) (sym same.unit) ∙ sym at.place, sym same.why)
        | inr end ↦ absurd (refused_at_whole source n o v end.statements end.sayings at end.cut end.faultless)
      ]
      | inr end ↦ elim s [
        | inl at ↦ absurd (refused_at_whole source m p w end.statements end.sayings at end.cut end.faultless)
        | inr too ↦
            let cuts : too.statements ≡ end.statements = statements_once _ _ too.statements end.statements too.cut end.cut in
            (too.number_is ∙ ap (λ (us : List TextUnit). length us + 1) cuts ∙ sym end.number_is, too.place ∙ sym end.place, too.why_is ∙ sym end.why_is)
      ]
    ]
