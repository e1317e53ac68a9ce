-- Numbers, names and reasons as texts.
use Rattle.std.proofs.Common.{◌≡◌, ◌&&◌, ℕ, ◌<◌, ◌^◌, Bool, true, Option, Some, None, Result, Ok, Err, List, [], ◌∷◌, decimal, ap, sym, ◌∙◌, subst, arith, Bor}
use Rattle.std.proofs.lemmas.Bool.{and_parts}
use Rattle.std.proofs.lemmas.Bool.Decides.{nat_tests}
use Rattle.std.proofs.lemmas.Str.{IsUtf8-from_ascii}
use Rattle.std.proofs.lemmas.Str.Ascii.{IsAscii-nil, IsAscii-cons}
use Rattle.std.specs.List.{list_all}
use Rattle.std.specs.Str.{IsAscii, IsUtf8}
use Rattle.std.specs.Option.{IfSome, IfNone, IsSomeAnd}
use Rattle.std.specs.Result.{MatchResult, result_ok}
use Rattle.pp_bytes.specs.Number.{IsNumber, IsNoNumber}
use Rattle.pp_bytes.proofs.NumberLemmas.{number_unique}
use Rattle.pp_text.specs.declared.token.Token.{Token as Borrowed}
use Rattle.pp_text.specs.declared.token.Token.TheVariants as borrowed
use Rattle.pp_text.specs.Tokens.{Token, Word, Quoted, Bracketed}
use Rattle.pp_text.specs.Statements.{number_word}
use Rattle.pp_text.specs.steps.View.{token_of}
use Rattle.pp_rules.specs.Names.{begins_name, continues_name, is_plain_byte, IsName, IsReason}

-- what a token has between its ends
inside : Token → List ℕ
inside (Word bytes) = bytes
inside (Quoted bytes) = bytes
inside (Bracketed bytes) = bytes

-- the number that is read is the one that the bytes write
pub number-only : (bytes : List ℕ) (r : Option ℕ) → IfSome r (IsNumber bytes) → IfNone r (IsNoNumber bytes) → (n : ℕ) → n < 2 ^ 64 → bytes ≡ decimal n → r ≡ Some n
number-only bytes (Some m) written nothing n small e = ap Some (number_unique bytes m n written (small, e))
number-only bytes None written nothing n small e = absurd (nothing n small e)

-- the same of a word
pub word-only : (token : Borrowed) (bytes : Bor (List ℕ)) (r : Option ℕ) → token ≡ borrowed.Word bytes → IfSome r (IsNumber bytes.now) → IfNone r (IsNoNumber bytes.now) → (n : ℕ) → n < 2 ^ 64 → token_of token ≡ number_word n → r ≡ Some n
unfolding inside
word-only token bytes r is written nothing n small e =
    let said : Word bytes.now ≡ Word (decimal n) = ap token_of (sym is) ∙ e in
    number-only bytes.now r written nothing n small (ap inside said)

-- bytes that are UTF-8 are the text that is made of them
pub text-of : {E : Type 0} → (bytes : List ℕ) (r : Option (Bor (List ℕ))) (t : Result (Bor (List ℕ)) E) (Q : E → Type 0) → r ≡ result_ok t →
    MatchResult t (λ s. (s.now ≡ bytes) × IsUtf8 bytes) (λ e. ¬ IsUtf8 bytes × Q e) → IsUtf8 bytes → IsSomeAnd r (λ s. s.now ≡ bytes)
text-of bytes r (Ok x) Q e cases utf8 = subst (λ (o : Option (Bor (List ℕ))). IsSomeAnd o (λ s. s.now ≡ bytes)) (sym e) cases.0
text-of bytes r (Err f) Q e cases utf8 = absurd (cases.0 utf8)

-- the bytes of names and of reasons are below 128
begins-ascii : (b : ℕ) → begins_name b ≡ true → b < 128
begins-ascii b h = grind (arith, nat_tests)

continues-ascii : (b : ℕ) → continues_name b ≡ true → b < 128
continues-ascii b h = grind (arith, nat_tests)

plain-ascii : (b : ℕ) → is_plain_byte b ≡ true → b < 128
plain-ascii b h = grind (arith, nat_tests)

-- bytes that all pass such a test
tested-ascii : (test : ℕ → Bool) → ((b : ℕ) → test b ≡ true → b < 128) → (bytes : List ℕ) → list_all test bytes ≡ true → IsAscii bytes
tested-ascii test small [] all = IsAscii-nil
tested-ascii test small (b ∷ bytes) all =
    let parts = and_parts _ _ all in
    IsAscii-cons b bytes (small b parts.0) (tested-ascii test small bytes parts.1)

-- so names and reasons are UTF-8
pub name-utf8 : (bytes : List ℕ) → IsName bytes → IsUtf8 bytes
name-utf8 [] name = IsUtf8-from_ascii [] IsAscii-nil
name-utf8 (b ∷ bytes) name =
    let parts = and_parts (begins_name b && list_all continues_name bytes) _ name in
    let front = and_parts (begins_name b) _ parts.0 in
    IsUtf8-from_ascii (b ∷ bytes) (IsAscii-cons b bytes (begins-ascii b front.0) (tested-ascii continues_name continues-ascii bytes front.1))

pub reason-utf8 : (bytes : List ℕ) → IsReason bytes → IsUtf8 bytes
reason-utf8 bytes reason = IsUtf8-from_ascii bytes (tested-ascii is_plain_byte plain-ascii bytes (and_parts _ _ reason).1)
