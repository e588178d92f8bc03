-- A header's value as its caller sees it.
use Rattle.csa_text.specs.Moment.{moment_of}
use Rattle.csa_record.specs.declared.titles.HeaderValue.{HeaderValue}
use Rattle.csa_record.specs.declared.titles.HeaderValue.TheVariants as values
use Rattle.record_game.specs.Game as games

-- a header's text as its caller sees it
abbrev pub shown : HeaderValue → games.HeaderText
shown (values.Moment m) = games.moment (moment_of m)
shown (values.Plain text) = games.plain text.now
