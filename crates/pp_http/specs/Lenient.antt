-- The lenient flags: the name of each, and its bit in the property lenient.
use Rattle.std.specs.Prelude.{ℕ, List, [], ◌∷◌, codes}

-- each flag with its bit
abbrev pub lenient_flags : List (List ℕ × ℕ)
lenient_flags =
    (codes "HEADERS", 1) ∷ (codes "CHUNKED_LENGTH", 2) ∷ (codes "KEEP_ALIVE", 4) ∷ (codes "TRANSFER_ENCODING", 8) ∷
    (codes "VERSION", 16) ∷ (codes "DATA_AFTER_CLOSE", 32) ∷ (codes "OPTIONAL_LF_AFTER_CR", 64) ∷
    (codes "OPTIONAL_CRLF_AFTER_CHUNK", 128) ∷ (codes "OPTIONAL_CR_BEFORE_LF", 256) ∷ (codes "SPACES_AFTER_CHUNK_SIZE", 512) ∷ []
