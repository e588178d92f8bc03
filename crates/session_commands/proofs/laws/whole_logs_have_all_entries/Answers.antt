use Rattle.session_commands.proofs.Logging.{any_noted, seen_noted}
use Rattle.session_commands.proofs.LogTexts.{front_noted, noted_all}
use Rattle.session_commands.specs.LogTexts.{notes_text}
use Rattle.session_commands.proofs.laws.whole_logs_have_all_entries.Goals as goal

pub returns : goal.returns
returns g c = record {
  text = λ entries l m noted whole.
      (noted_all (notes_text g.T.Timer.shows) (λ l. l.0) (λ l. l.1) (λ l m entry is. is) entries l m noted whole).1;
  front = λ entries l m noted. front_noted g.T.Timer.shows entries l m noted;
  noted = λ entries l m noted.
      let found = any_noted _ entries l m noted in
      (found.0, found.1, seen_noted _ (notes_text g.T.Timer.shows) (λ x. (x.state, g.W.Write.contents x.writer)) (λ x y entry is. is) entries l found.0 found.2);
}
