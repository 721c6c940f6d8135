-- What the bytes of an address list are there.
use Rattle.std.specs.Prelude.{ℕ, Bool, true, false, List, map}
use Rattle.headers.specs.declared.address_byte.AddressByte.{AddressByte}
use Rattle.headers.specs.declared.address_byte.Role.{Role}
use Rattle.headers.specs.declared.address_byte.Role.TheVariants.{Text, Quote, CommentStart}
use Rattle.headers.specs.declared.address_byte.Role.TheVariants.{CommentText, CommentEnd}
use Rattle.headers.specs.declared.address_byte.Role.TheVariants.{AngleStart, AngleEnd, GroupEnd}
use Rattle.headers.specs.declared.address_byte.Role.TheVariants.{Separator}

-- the roles are the same
abbrev pub is_role : Role → Role → Bool
is_role Text Text = true
is_role Quote Quote = true
is_role CommentStart CommentStart = true
is_role CommentText CommentText = true
is_role CommentEnd CommentEnd = true
is_role AngleStart AngleStart = true
is_role AngleEnd AngleEnd = true
is_role GroupEnd GroupEnd = true
is_role Separator Separator = true
is_role _ _ = false

-- a byte of this role
abbrev pub has : Role → AddressByte → Bool
has role b = is_role role b.role

-- of a comment, with its parentheses
abbrev pub is_comment_role : Role → Bool
is_comment_role CommentStart = true
is_comment_role CommentText = true
is_comment_role CommentEnd = true
is_comment_role _ = false

-- a byte stands in a comment
abbrev pub is_comment : AddressByte → Bool
is_comment b = is_comment_role b.role

-- the bytes alone
abbrev pub bytes_of : List AddressByte → List ℕ
bytes_of bytes = map (λ b. b.byte) bytes
