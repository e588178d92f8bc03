-- A line of an engine says at most one thing.
use Rattle.std.proofs.Common.{◌≡◌, ℕ, List, Some, None, refl, ap, sym, ◌∙◌, arith}
use Rattle.usi_text.specs.declared.engine.EngineWord.{EngineWord}
use Rattle.usi_text.specs.declared.engine.EngineWord.TheVariants.{UsiOk, ReadyOk, Best, Resign, Win, Other}
use Rattle.usi_text.specs.Engine.{LineSays, text_in}
use Rattle.usi_text.specs.EngineTexts as texts
use Rattle.usi_text.proofs.Heads.{sizes}

pub says_once : (ws : List (List ℕ)) (word other : EngineWord) → text_in word ≡ None → LineSays ws word → LineSays ws other → other ≡ word
says_once ws UsiOk UsiOk plain h k = refl
says_once ws UsiOk ReadyOk plain h k = absurd (sizes texts.usi_ok texts.ready_ok (sym h ∙ k) (omega arith))
says_once ws UsiOk Resign plain h k = absurd (sizes texts.usi_ok texts.best_move_word (sym h ∙ k.0) (omega arith))
says_once ws UsiOk Win plain h k = absurd (sizes texts.usi_ok texts.best_move_word (sym h ∙ k.0) (omega arith))
says_once ws UsiOk Other plain h k = absurd (k.0 h)
says_once ws UsiOk (Best u) plain h k = absurd (sizes texts.usi_ok texts.best_move_word (sym h ∙ k.0) (omega arith))
says_once ws ReadyOk UsiOk plain h k = absurd (sizes texts.ready_ok texts.usi_ok (sym h ∙ k) (omega arith))
says_once ws ReadyOk ReadyOk plain h k = refl
says_once ws ReadyOk Resign plain h k = absurd (sizes texts.ready_ok texts.best_move_word (sym h ∙ k.0) (omega arith))
says_once ws ReadyOk Win plain h k = absurd (sizes texts.ready_ok texts.best_move_word (sym h ∙ k.0) (omega arith))
says_once ws ReadyOk Other plain h k = absurd (k.1 h)
says_once ws ReadyOk (Best u) plain h k = absurd (sizes texts.ready_ok texts.best_move_word (sym h ∙ k.0) (omega arith))
says_once ws Resign UsiOk plain h k = absurd (sizes texts.best_move_word texts.usi_ok (sym (h.0) ∙ k) (omega arith))
says_once ws Resign ReadyOk plain h k = absurd (sizes texts.best_move_word texts.ready_ok (sym (h.0) ∙ k) (omega arith))
says_once ws Resign Resign plain h k = refl
says_once ws Resign Win plain h k = absurd (sizes texts.engine_resigns texts.engine_wins (sym (h.1) ∙ k.1) (omega arith))
says_once ws Resign Other plain h k = absurd (k.2 h.0)
says_once ws Resign (Best u) plain h k = absurd (k.1.1 h.1)
says_once ws Win UsiOk plain h k = absurd (sizes texts.best_move_word texts.usi_ok (sym (h.0) ∙ k) (omega arith))
says_once ws Win ReadyOk plain h k = absurd (sizes texts.best_move_word texts.ready_ok (sym (h.0) ∙ k) (omega arith))
says_once ws Win Resign plain h k = absurd (sizes texts.engine_wins texts.engine_resigns (sym (h.1) ∙ k.1) (omega arith))
says_once ws Win Win plain h k = refl
says_once ws Win Other plain h k = absurd (k.2 h.0)
says_once ws Win (Best u) plain h k = absurd (k.1.2 h.1)
says_once ws Other UsiOk plain h k = absurd (h.0 k)
says_once ws Other ReadyOk plain h k = absurd (h.1 k)
says_once ws Other Resign plain h k = absurd (h.2 k.0)
says_once ws Other Win plain h k = absurd (h.2 k.0)
says_once ws Other Other plain h k = refl
says_once ws Other (Best u) plain h k = absurd (h.2 k.0)
says_once ws (Best t) UsiOk plain h k = cc
says_once ws (Best t) ReadyOk plain h k = cc
says_once ws (Best t) Resign plain h k = cc
says_once ws (Best t) Win plain h k = cc
says_once ws (Best t) Other plain h k = cc
says_once ws (Best t) (Best u) plain h k = cc

pub says_one_text : (ws : List (List ℕ)) (word other : EngineWord) → LineSays ws word → LineSays ws other → text_in word ≡ text_in other
says_one_text ws (Best t) (Best u) h k = ap Some (h.1.0 ∙ sym (k.1.0))
says_one_text ws (Best t) UsiOk h k = ap text_in (says_once ws UsiOk (Best t) refl k h)
says_one_text ws (Best t) ReadyOk h k = ap text_in (says_once ws ReadyOk (Best t) refl k h)
says_one_text ws (Best t) Resign h k = ap text_in (says_once ws Resign (Best t) refl k h)
says_one_text ws (Best t) Win h k = ap text_in (says_once ws Win (Best t) refl k h)
says_one_text ws (Best t) Other h k = ap text_in (says_once ws Other (Best t) refl k h)
says_one_text ws UsiOk other h k = ap text_in (sym (says_once ws UsiOk other refl h k))
says_one_text ws ReadyOk other h k = ap text_in (sym (says_once ws ReadyOk other refl h k))
says_one_text ws Resign other h k = ap text_in (sym (says_once ws Resign other refl h k))
says_one_text ws Win other h k = ap text_in (sym (says_once ws Win other refl h k))
says_one_text ws Other other h k = ap text_in (sym (says_once ws Other other refl h k))
