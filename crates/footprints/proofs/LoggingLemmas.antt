-- The text of the capability of logging, part by part.
use Rattle.std.proofs.Common.{◌≡◌, ℕ, true, false, List, [], ◌∷◌, ◌++◌, codes, ap, ◌∙◌, append_assoc}
use Rattle.json.specs.Print.{quoted, escape_byte}
use Rattle.serde_json.specs.Data.{Members}
use Rattle.serde_json.specs.Written.{comma_if, compact_text, items_text, members_text}
use Rattle.footprints.specs.Logging.{logging_object, text_items}

-- what stands before the names of the fields
abbrev front : List ℕ
front = 44 ∷ 123 ∷ (quoted (codes "capability-type") ++ 58 ∷ (quoted (codes "FCI.Logging") ++ 44 ∷ (quoted (codes "capability-value") ++ 58 ∷ 123 ∷ (quoted (codes "fields") ++ 58 ∷ 91 ∷ []))))

-- what stands behind them
abbrev back : List ℕ
back = 44 ∷ (quoted (codes "record-type") ++ 58 ∷ (quoted (codes "cdni_http_request_v1") ++ 125 ∷ []))

pieces : (before a b c d : List ℕ) → (((before ++ a) ++ b) ++ c) ++ d ≡ before ++ (a ++ ((b ++ c) ++ d))
pieces before a b c d = simp append_assoc

-- the names of the fields between the two
pub logging_added : (names texts : List (List ℕ)) (others : Members) (before begun listed after : List ℕ)
    → texts ≡ names
    → begun ≡ before ++ front
    → listed ≡ begun ++ items_text false (text_items texts)
    → after ≡ listed ++ back
    → after ++ members_text true others ≡ before ++ (comma_if true ++ compact_text (logging_object names others))
unfolding escape_byte
logging_added names texts others before begun listed after same a b c =
    let items = items_text false (text_items texts) in
    ap (λ t. t ++ members_text true others) (c ∙ ap (λ t. t ++ back) (b ∙ ap (λ t. t ++ items) a))
    ∙ (pieces before front items back (members_text true others) ∙ ap (λ l. before ++ (comma_if true ++ compact_text (logging_object l others))) same)
