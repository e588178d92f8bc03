use Rattle.std.proofs.Common.{sym, ap, refl, ◌∙◌, ◌++◌, inl, inr, codes, append_assoc}
use Rattle.shogi_board.proofs.Same.{placed-eq}
use Rattle.shogi_board.proofs.Start.{even-sound}
use Rattle.usi_text.specs.SfenText.{sfen_text}
use Rattle.usi_text.proofs.line_writing.push_start.Goals as goal

pub returns-in_ok-extend_from_slice-clause-text : goal.returns-in_ok-extend_from_slice-clause-text
returns-in_ok-extend_from_slice-clause-text c =
    let e = (placed-eq c.args.start.now c.even.result).0 (sym c.eq.ensures ∙ c.if-eq.true) ∙ c.even.ensures.value in
    (codes "startpos", inl (e, refl), c.in_ok-extend_from_slice.ensures.items)

pub returns-in_ok-push_sfen-clause-text : goal.returns-in_ok-push_sfen-clause-text
returns-in_ok-push_sfen-clause-text c =
    let p = c.args.start.now in
    let other = sym c.eq.ensures ∙ c.if-eq.false in (
      codes "sfen " ++ sfen_text p,
      inr ((λ e. let same = (placed-eq p c.even.result).1 (e ∙ sym c.even.ensures.value) in cc), refl),
      c.in_ok-push_sfen.ensures.text ∙ (ap (λ t. t ++ sfen_text p) c.in_ok-extend_from_slice-2.ensures.items ∙ append_assoc c.args.text.now.items (codes "sfen ") (sfen_text p)),
    )

pub returns-in_ok-extend_from_slice-clause-sound : goal.returns-in_ok-extend_from_slice-clause-sound
returns-in_ok-extend_from_slice-clause-sound c =
    let e = (placed-eq c.args.start.now c.even.result).0 (sym c.eq.ensures ∙ c.if-eq.true) ∙ c.even.ensures.value in
    rw e even-sound
