-- Log files (RFC 7937, section 3).
use Rattle.std.specs.Prelude.{ℕ, List, ◌++◌, codes, decimal, map, take}
use Rattle.std.specs.List.{flat_map}
use Rattle.hex.specs.Hex.{encode_lower}
use Rattle.sha1.specs.Sha1.{sha1}
use Rattle.sha2.specs.Sha256.{sha256}
use Rattle.uuid.specs.Parts.{with_variant, with_version}
use Rattle.uuid.specs.Text.{lower, urn_text}
use Rattle.uuid.specs.Uuid.{namespace_url}
use Rattle.uuid.specs.declared.Variant.TheVariants.{RFC4122}
use Rattle.uuid.specs.declared.Version.TheVariants.{Sha1}
use Rattle.cdni_log.specs.declared.field.Field.{Field}
use Rattle.cdni_log.specs.declared.row.FileHead.{FileHead}
use Rattle.cdni_log.specs.declared.row.Row.{Row}
use Rattle.cdni_log.specs.Field.{field_name}
use Rattle.cdni_log.specs.Line.{directive, quoted, tabbed}
use Rattle.cdni_log.specs.Row.{record_text}

-- what tells a file from all others: the CDN that logged, the number of the file, and the moment of the cut
abbrev pub file_name : FileHead → List ℕ
file_name head = head.origin ++ codes "/" ++ decimal head.number ++ codes "/" ++ decimal head.moment

-- the UUID of a file (RFC 9562, section 5.5): version 5, of the file's name in the namespace of URLs
unfoldable pub file_uuid : FileHead → List ℕ
file_uuid head = with_version (with_variant (take 16 (sha1 (namespace_url ++ file_name head))) RFC4122) Sha1

-- which file this is, in three directives (RFC 7937, section 3.3)
unfoldable pub identity_text : FileHead → List ℕ
identity_text head = directive (codes "version") (codes "cdni/1.0")
    ++ directive (codes "UUID") (quoted (urn_text lower (file_uuid head)))
    ++ directive (codes "claimed-origin") head.origin

-- the fields of its records, in a directive
unfoldable pub fields_text : List Field → List ℕ
fields_text fields = directive (codes "fields") (tabbed (map field_name fields))

-- of what kind its records are, in two directives (RFC 7937, section 3.3)
abbrev pub form_text : List Field → List ℕ
form_text fields = directive (codes "record-type") (codes "cdni_http_request_v1") ++ fields_text fields

-- a text, and behind it the directive with its SHA-256 in hexadecimal digits
unfoldable pub with_hash : List ℕ → List ℕ
with_hash text = text ++ directive (codes "SHA256-hash") (encode_lower (sha256 text))

-- the file: its directives, one line for each row, in order, and the hash of all that
unfoldable pub file_text : FileHead → List Row → List ℕ
file_text head rows =
    with_hash (identity_text head ++ form_text head.fields ++ flat_map (record_text head.fields) rows)
