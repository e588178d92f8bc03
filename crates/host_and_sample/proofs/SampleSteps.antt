-- What a step of the sample engine says, from the row whose lines it gives.
use Rattle.std.proofs.Common.{◌≡◌, ℕ, List, [], ap, ◌∙◌}
use Rattle.host_and_sample.specs.Sample.{SampleRowText, SampleState, SampleRow, quit, in_table, skipped, over}
use Rattle.session_lines.specs.Texts.{text_of}
use Rattle.host_and_sample.proofs.SampleOnce.{keeps_quit, sample_once}

-- the bytes of a row's lines are those of any row's, as there is one
pub row_bytes : (s t : SampleState) (line text : List ℕ) (lines : List (List ℕ))
    → SampleRowText s line text t → SampleRow s line lines t → text ≡ text_of lines
row_bytes s t line text lines r other = r.2 ∙ ap text_of (sample_once s t t line r.0 lines r.1 other).0

-- once it has quit
over_row : (s t : SampleState) (line : List ℕ) (lines : List (List ℕ)) → s ≡ quit → SampleRow s line lines t → (lines ≡ []) × (t ≡ quit)
over_row s t line lines gone r =
    elim r [
      | in_table kept e b ↦ absurd (keeps_quit s kept e gone)
      | skipped kept e unnamed l h ↦ (l, h ∙ gone)
      | over e l h ↦ (l, h ∙ gone)
    ]

pub over_bytes : (s t : SampleState) (line text : List ℕ) → s ≡ quit → SampleRowText s line text t → text ≡ []
over_bytes s t line text gone r = r.2 ∙ ap text_of (over_row s t line r.0 gone r.1).0

pub over_stays : (s t : SampleState) (line text : List ℕ) → s ≡ quit → SampleRowText s line text t → t ≡ quit
over_stays s t line text gone r = (over_row s t line r.0 gone r.1).1
