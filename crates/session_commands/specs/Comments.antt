-- For private functions: a line of the server without its comment.
use Rattle.std.specs.Prelude.{◌-◌, ◌==◌, ℕ, Bool, List, length, take, drop, bytes_eq, codes, if◌then◌else◌}
use Rattle.std.specs.List.{before_first}

-- the byte begins a comment
abbrev pub is_quote : ℕ → Bool
is_quote b = b == 39

-- all but the comma at the end, if there is one
abbrev pub without_last_comma : List ℕ → List ℕ
without_last_comma bytes =
    if bytes_eq (drop (length bytes - 1) bytes) (codes ",")
    then take (length bytes - 1) bytes else bytes

-- what comes before the comment, without the comma between them
abbrev pub without_comment : List ℕ → List ℕ
without_comment line = without_last_comma (before_first is_quote line)
