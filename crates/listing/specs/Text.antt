-- The bytes of a text, however it holds them.
use Rattle.std.specs.Prelude.{ℕ, List}
use Rattle.listing.specs.declared.text.Held.{Held}
use Rattle.listing.specs.declared.text.Held.TheVariants as held

abbrev pub bytes_of : Held → List ℕ
bytes_of (held.Short bytes) = bytes
bytes_of (held.Own bytes) = bytes.items
bytes_of (held.Part bytes) = bytes
