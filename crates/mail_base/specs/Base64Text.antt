-- Text in base64 (RFC 4648, section 4).
use Rattle.std.specs.Prelude.{ℕ, List, Option}
use Rattle.std.specs.Result.{result_ok}
use Rattle.base64.specs.GeneralPurpose.{decode_of}
use Rattle.base64.specs.Engines.{standard}

-- the bytes of a text in base64, unless it is malformed
abbrev pub base64_bytes : List ℕ → Option (List ℕ)
base64_bytes text = result_ok (decode_of standard text)
