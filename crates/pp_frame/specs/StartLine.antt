-- Start lines. RFC 9112, sections 3 and 4.
use Rattle.std.specs.Prelude.{◌≡◌, ℕ, ◌+◌, ◌<◌, ◌≤◌, true, false, List, [], ◌∷◌, ◌++◌, length, Option, None, Some, codes, Contains}
use Rattle.std.specs.List.{AllPass}
use Rattle.std.specs.Str.Parse.{AllDigits, digits_value}
use Rattle.pp_frame.specs.declared.message.Start.{Start}
use Rattle.pp_frame.specs.Bytes.{crlf, is_text_byte, is_target_byte}

-- The methods that a request may have.
unfoldable pub methods : List (List ℕ)
methods =
    codes "DELETE" ∷ codes "GET" ∷ codes "HEAD" ∷ codes "POST" ∷ codes "PUT" ∷ codes "CONNECT" ∷ codes "OPTIONS" ∷ codes "TRACE" ∷ codes "COPY"
    ∷ codes "LOCK" ∷ codes "MKCOL" ∷ codes "MOVE" ∷ codes "PROPFIND" ∷ codes "PROPPATCH" ∷ codes "SEARCH" ∷ codes "UNLOCK" ∷ codes "BIND"
    ∷ codes "REBIND" ∷ codes "UNBIND" ∷ codes "ACL" ∷ codes "REPORT" ∷ codes "MKACTIVITY" ∷ codes "CHECKOUT" ∷ codes "MERGE" ∷ codes "M-SEARCH"
    ∷ codes "NOTIFY" ∷ codes "SUBSCRIBE" ∷ codes "UNSUBSCRIBE" ∷ codes "PATCH" ∷ codes "PURGE" ∷ codes "MKCALENDAR" ∷ codes "LINK" ∷ codes "UNLINK" ∷ []

-- A start line: of a request, the method, the target and the digit behind `HTTP/1.`; of a response, that digit, the
-- three digits of its status, and its reason, if a space follows them.
pub data StartLine : Type 0 where
  Request : (method target : List ℕ) (minor : ℕ) → StartLine
  Response : (minor : ℕ) (digits : List ℕ) (reason : Option (List ℕ)) → StartLine

-- the version with these two digits
abbrev pub version : ℕ → ℕ → List ℕ
version major minor = codes "HTTP/" ++ (48 + major) ∷ 46 ∷ (48 + minor) ∷ []

-- a space and the reason, if there is one
abbrev pub reason_bytes : Option (List ℕ) → List ℕ
reason_bytes None = []
reason_bytes (Some reason) = 32 ∷ reason

-- the bytes of a start line with this digit before the point
unfoldable pub start_line : ℕ → StartLine → List ℕ
start_line major (Request method target minor) = method ++ 32 ∷ target ++ 32 ∷ version major minor ++ crlf
start_line major (Response minor digits reason) = version major minor ++ 32 ∷ digits ++ reason_bytes reason ++ crlf

-- a target: one or more visible bytes
pub record IsTarget (target : List ℕ) : Type 0 where
  pub some : 0 < length target
  pub visible : AllPass is_target_byte target

-- bytes that may stand behind the status
abbrev pub IsReason : Option (List ℕ) → Type 0
IsReason None = Unit {0}
IsReason (Some reason) = AllPass is_text_byte reason

-- three digits
pub record IsStatus (digits : List ℕ) : Type 0 where
  pub three : length digits ≡ 3
  pub each : AllDigits 10 digits

-- each part of the line is of its kind
abbrev pub IsStartLine : StartLine → Type 0
IsStartLine (Request method target minor) = Contains methods method × IsTarget target × (minor ≤ 1)
IsStartLine (Response minor digits reason) = (minor ≤ 1) × IsStatus digits × IsReason reason

-- what framing needs of a start line
abbrev pub start_of : StartLine → Start
start_of (Request method target minor) = record { response = false; status = 0; minor = minor }
start_of (Response minor digits reason) = record { response = true; status = digits_value 10 digits; minor = minor }
