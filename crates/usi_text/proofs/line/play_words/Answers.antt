use Rattle.std.proofs.Common.{rules, ◌∙◌, ap, length, arith, subst}
use Rattle.std.proofs.lemmas.Result.{err_from_is_err_and}
use Rattle.shogi_board.specs.Placed.{Placed}
use Rattle.shogi_rules.specs.Positions.{Played}
use Rattle.usi_text.specs.Lines.{IsPlayed}
use Rattle.usi_text.specs.Scanning.{WordStops}
use Rattle.usi_text.specs.Words.{words}
use Rattle.usi_text.proofs.Played.{playing_start, playing_more, playing_end, playing_stops}
use Rattle.usi_text.proofs.line.play_words.Goals as goal

pub loop-word-init : goal.loop-word-init
loop-word-init c = record { start = search rules; playing = rw c.requires (playing_start c.args.line.now.start (words c.args.text.now)) }

pub loop-word-preserved : goal.loop-word-preserved
loop-word-preserved c =
    let i = c.loop-word.invariant in
    let r = c.in_ok-play_word.ensures {u = tt} in
    let line = c.loop-word.line in
    let w = c.in-Some.word.now in
    let first = c.in-Some.ensures.word in
    let played = subst (λ (p : Placed). IsPlayed p line.moves w r.0) i.start r.1 in
    record {
      start = ap (λ (l : Played). l.start) r.2 ∙ i.start;
      playing = rw r.2 (playing_more c.args.line.now.start (words c.args.text.now) (words c.loop-word.rest.now) (words c.in-Some.following.now) line.moves w r.0 i.playing first played);
    }

pub loop-word-smaller : goal.loop-word-smaller
loop-word-smaller c = let l = ap length c.in-Some.ensures.word in omega (arith, l)

pub returns : goal.returns
returns c =
    let i = c.loop-word.invariant in
    (i.start, playing_end c.args.line.now.start (words c.args.text.now) (words c.loop-word.rest.now) c.loop-word.line.moves i.playing (c.in_default.ensures {u = tt}).word)

pub returns-in_err-play_word : goal.returns-in_err-play_word
returns-in_err-play_word c =
    let i = c.loop-word.invariant in
    let p = err_from_is_err_and c.from_residual.result c.from_residual.ensures.1 in
    let line = c.loop-word.line in
    let w = c.in-Some.word.now in
    let fault = c.in_err-play_word.field-0.0 in
    let first = c.in-Some.ensures.word in
    let f = subst (λ (q : Placed). WordStops q line.moves w fault) i.start (c.in_err-play_word.ensures {u = tt}) in
    rw (p.1, p.2) (playing_stops c.args.line.now.start (words c.args.text.now) (words c.loop-word.rest.now) (words c.in-Some.following.now) line.moves w fault i.playing first f)
