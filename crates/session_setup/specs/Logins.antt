-- The name and the password that `play` logs in with.
use Rattle.std.specs.Prelude.{◌≡◌, ◌==◌, ◌||◌, ℕ, List, Option, None, Some, IfSome, codes, if◌then◌else◌}
use Rattle.std.specs.Borrow.{Bor}
use Rattle.std.specs.List.{before_first}
use Rattle.std.specs.Process.{clears_env, command_var}
use Rattle.std.specs.declared.process.command.Command.{Command}
use Rattle.session_setup.specs.declared.fault.LoginFault.{LoginFault}
use Rattle.session_setup.specs.declared.fault.LoginFault.TheVariants.{BadName, BadPassword, Read, OutOfMemory}
use Rattle.session_setup.specs.declared.login.Login.{Login}
use Rattle.host_and_sample.specs.Host.{IsLoginWord}
use Rattle.shogi_words.specs.declared.play.PasswordSource.{PasswordSource}
use Rattle.shogi_words.specs.declared.play.PasswordSource.TheVariants.{File, Variable}
use Rattle.shogi_words.specs.declared.play.Plan.{Plan}

-- this file has that name
abbrev pub Opens : Type 0 → Type 0 → Type 1
Opens S F = S → List ℕ → F → Type 0

-- the variable has this text, or is not set
abbrev pub Holds : Type 0 → Type 1
Holds S = S → Option (List ℕ) → Type 0

-- what comes before the first CR or LF, or all of the bytes
abbrev pub first_line : List ℕ → List ℕ
first_line bytes = before_first (λ b. b == 13 || b == 10) bytes

-- this is the first line of these bytes, if they are known
abbrev pub HasFirstLine : Option (List ℕ) → List ℕ → Type 0
HasFirstLine bytes line = IfSome bytes (λ all. line ≡ first_line all)

-- the first line of these bytes is no password; with the fault that is reported
pub data GivesNoWord (bytes : Option (List ℕ)) : LoginFault → Type 0 where
  bad_line : (line : List ℕ) → HasFirstLine bytes line → (IsLoginWord line → ⊥)
      → GivesNoWord bytes BadPassword
  -- a read failed
  unread : GivesNoWord bytes Read
  no_room : GivesNoWord bytes OutOfMemory

-- the source gives this password
pub data GivesPassword {S F : Type 0} (opens : Opens S F) (bytes_of : F → Option (List ℕ))
    (holds : Holds S) (secrets : S) : PasswordSource → List ℕ → Type 0 where
  in_file : (path : Bor (List ℕ)) (file : F) (word : List ℕ)
      → opens secrets path.now file → HasFirstLine (bytes_of file) word
      → GivesPassword opens bytes_of holds secrets (File path) word
  in_variable : (word : List ℕ) → holds secrets (Some word)
      → GivesPassword opens bytes_of holds secrets Variable word
  usual : holds secrets None
      → GivesPassword opens bytes_of holds secrets Variable (codes "pw")

-- the source gives no password; with the fault that is reported
pub data HasNoPassword {S F : Type 0} (opens : Opens S F) (opens_not : S → List ℕ → Type 0)
    (bytes_of : F → Option (List ℕ)) (holds : Holds S) (holds_no_text : S → Type 0)
    (secrets : S) : PasswordSource → LoginFault → Type 0 where
  no_file : (path : Bor (List ℕ)) → opens_not secrets path.now
      → HasNoPassword opens opens_not bytes_of holds holds_no_text secrets (File path) Read
  no_word : (path : Bor (List ℕ)) (file : F) (fault : LoginFault)
      → opens secrets path.now file → GivesNoWord (bytes_of file) fault
      → HasNoPassword opens opens_not bytes_of holds holds_no_text secrets (File path) fault
  bad_text : (text : List ℕ) → holds secrets (Some text) → (IsLoginWord text → ⊥)
      → HasNoPassword opens opens_not bytes_of holds holds_no_text secrets Variable BadPassword
  no_text : holds_no_text secrets
      → HasNoPassword opens opens_not bytes_of holds holds_no_text secrets Variable BadPassword
  no_memory : (source : PasswordSource)
      → HasNoPassword opens opens_not bytes_of holds holds_no_text secrets source OutOfMemory

-- both words can be logged in with
pub record AreLoginWords (login : Login) : Type 0 where
  pub name : IsLoginWord login.name.bytes
  pub password : IsLoginWord login.password.bytes

-- the plan's name, and the password of its source
pub record IsLoginOf {S F : Type 0} (opens : Opens S F) (bytes_of : F → Option (List ℕ))
    (holds : Holds S) (secrets : S) (plan : Plan) (login : Login) : Type 0 where
  pub name : login.name.bytes ≡ plan.name.now
  pub password : GivesPassword opens bytes_of holds secrets plan.password login.password.bytes

-- the plan's name is refused, or its source gives no password; with the fault that is reported
pub data HasNoLogin {S F : Type 0} (opens : Opens S F) (opens_not : S → List ℕ → Type 0)
    (bytes_of : F → Option (List ℕ)) (holds : Holds S) (holds_no_text : S → Type 0)
    (secrets : S) (plan : Plan) : LoginFault → Type 0 where
  bad_name : (IsLoginWord plan.name.now → ⊥)
      → HasNoLogin opens opens_not bytes_of holds holds_no_text secrets plan BadName
  no_password : (fault : LoginFault) → IsLoginWord plan.name.now
      → HasNoPassword opens opens_not bytes_of holds holds_no_text secrets plan.password fault
      → HasNoLogin opens opens_not bytes_of holds holds_no_text secrets plan fault

-- the program of a command gets no variable with a password, whatever this process has
abbrev pub IsWithoutPassword : {A : Type 0} → Command A → Type 0
IsWithoutPassword c =
    command_var c (codes "SHOGI_PASSWORD") ≡ (if clears_env c then None else Some None)
