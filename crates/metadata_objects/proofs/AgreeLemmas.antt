-- What is read of a value depends on the properties that are read alone.
use Rattle.std.proofs.Common.{◌≡◌, ℕ, Bool, List, [], true, false, refl, sym, ◌∙◌, ap, codes, Ok, Err, cond, Option}
use Rattle.std.specs.Option.{is_some}
use Rattle.std.specs.declared.result.Result.{Result}
use Rattle.serde_json.specs.Data.{Data, null, boolean, number, string, array, object}
use Rattle.serde_json.specs.Find.{get, as_object}
use Rattle.json_read.specs.Field.{◌>>=◌, or_fault, looked_up, needed, text_of}
use Rattle.json_read.specs.Path.{child_of}
use Rattle.json_read.specs.declared.fault.FieldCause.TheVariants.{WrongKind, Missing}
use Rattle.metadata_objects.specs.Reading.{field, no_link, needed_text, flag_of_found, flag_or, AgreeOn}
use Rattle.metadata_objects.specs.declared.fault.MetaFault.TheVariants as meta_fault
use Rattle.metadata_objects.specs.Generic.{generic_of, generic_names}
use Rattle.metadata_objects.specs.Host.{host_match_of, host_match_names, host_index_of, host_index_names}
use Rattle.metadata_objects.specs.Level.{PathReading, metadata_of, paths_of, level_with, level_names, needed_level, path_match_with, path_match_names, pattern_of, pattern_names, needed_pattern}

along : {A B F : Type 0} (reading : Result A F) (next other : A → Result B F) → ((a : A) → next a ≡ other a) → (reading >>= next) ≡ (reading >>= other)
along (Ok a) next other same = same a
along (Err fault) next other same = refl

-- two readings in a row are the same where the first are, and the second after each value
then_same : {A B F : Type 0} (first last : Result A F) (next other : A → Result B F) → first ≡ last → ((a : A) → next a ≡ other a) → (first >>= next) ≡ (last >>= other)
then_same first last next other is same = ap (λ (r : Result _ _). r >>= next) is ∙ along last next other same

-- a member is looked up in an object, and it is what the value has at the name
looked_is : (path name : List ℕ) (value : Data) → looked_up path name value ≡ cond (is_some (as_object value)) (Ok (get name value)) (Err (record { path = path; cause = WrongKind }))
looked_is path name null = refl
looked_is path name (boolean b) = refl
looked_is path name (number n) = refl
looked_is path name (string s) = refl
looked_is path name (array items) = refl
looked_is path name (object members) = refl

looked_same : (path name : List ℕ) (value other : Data) → is_some (as_object value) ≡ is_some (as_object other) → get name value ≡ get name other → looked_up path name value ≡ looked_up path name other
looked_same path name value other objects same =
    looked_is path name value ∙ rw (objects, same) (sym (looked_is path name other))

needed_same : (path name : List ℕ) (value other : Data) → is_some (as_object value) ≡ is_some (as_object other) → get name value ≡ get name other → needed path name value ≡ needed path name other
needed_same path name value other objects same = ap (λ (r : Result _ _). r >>= λ found. or_fault (child_of path name) Missing found) (looked_same path name value other objects same)

text_same : (path name : List ℕ) (value other : Data) → is_some (as_object value) ≡ is_some (as_object other) → get name value ≡ get name other → needed_text path name value ≡ needed_text path name other
text_same path name value other objects same = ap (λ (r : Result _ _). field (r >>= λ member. text_of (child_of path name) member)) (needed_same path name value other objects same)

flag_same : (path name : List ℕ) (absent : Bool) (value other : Data) → is_some (as_object value) ≡ is_some (as_object other) → get name value ≡ get name other → flag_or path name absent value ≡ flag_or path name absent other
flag_same path name absent value other objects same = ap (λ (r : Result _ _). field (r >>= λ found. flag_of_found (child_of path name) absent found)) (looked_same path name value other objects same)

link_same : (path : List ℕ) (value other : Data) → get (codes "href") value ≡ get (codes "href") other → no_link path value ≡ no_link path other
link_same path value other same = ap (λ (found : Option Data). cond (is_some found) (Err (meta_fault.Link path)) (Ok tt)) same

pub index_same : (value other : Data) → AgreeOn host_index_names value other → host_index_of value ≡ host_index_of other
unfolding host_index_of
index_same value other agree =
    then_same _ _ _ _ (ap field (needed_same [] (codes "hosts") value other agree.objects agree.members.0)) (λ list. refl)

pub generic_same : (path : List ℕ) (n : ℕ) (value other : Data) → AgreeOn generic_names value other → generic_of path n value ≡ generic_of path n other
unfolding generic_of
generic_same path n value other agree =
    let o = agree.objects in
    let m = agree.members in
    then_same _ _ _ _ refl (λ count.
    then_same _ _ _ _ (link_same path value other m.0) (λ plain.
    then_same _ _ _ _ (text_same path (codes "generic-metadata-type") value other o m.1.0) (λ text.
    then_same _ _ _ _ refl (λ kind.
    then_same _ _ _ _ (ap field (needed_same path (codes "generic-metadata-value") value other o m.1.1.0)) (λ inner.
    then_same _ _ _ _ (flag_same path (codes "mandatory-to-enforce") true value other o m.1.1.1.0) (λ mandatory.
    then_same _ _ _ _ (flag_same path (codes "safe-to-redistribute") true value other o m.1.1.1.1.0) (λ redistribute.
    then_same _ _ _ _ (flag_same path (codes "incomprehensible") false value other o m.1.1.1.1.1.0) (λ incomprehensible. refl))))))))

level_at_same : (read : PathReading) (path name : List ℕ) (n : ℕ) (value other : Data) → is_some (as_object value) ≡ is_some (as_object other) → get name value ≡ get name other
    → needed_level read path name n value ≡ needed_level read path name n other
unfolding needed_level
level_at_same read path name n value other objects same = then_same _ _ _ _ (ap field (needed_same path name value other objects same)) (λ member. refl)

pub level_same : (read : PathReading) (path : List ℕ) (n : ℕ) (value other : Data) → AgreeOn level_names value other → level_with read path n value ≡ level_with read path n other
unfolding level_with metadata_of paths_of
level_same read path n value other agree =
    let o = agree.objects in
    let m = agree.members in
    then_same _ _ _ _ (link_same path value other m.0) (λ plain.
    then_same _ _ _ _ (then_same _ _ _ _ (ap field (looked_same path (codes "metadata") value other o m.1.0)) (λ found. refl)) (λ metadata.
    then_same _ _ _ _ (then_same _ _ _ _ (ap field (looked_same path (codes "paths") value other o m.1.1.0)) (λ found. refl)) (λ paths. refl)))

pub pattern_same : (path : List ℕ) (value other : Data) → AgreeOn pattern_names value other → pattern_of path value ≡ pattern_of path other
unfolding pattern_of
pattern_same path value other agree =
    then_same _ _ _ _ (text_same path (codes "pattern") value other agree.objects agree.members.0) (λ text.
    then_same _ _ _ _ refl (λ short.
    then_same _ _ _ _ (flag_same path (codes "case-sensitive") false value other agree.objects agree.members.1.0) (λ case_sensitive. refl)))

pattern_at_same : (path name : List ℕ) (value other : Data) → is_some (as_object value) ≡ is_some (as_object other) → get name value ≡ get name other → needed_pattern path name value ≡ needed_pattern path name other
unfolding needed_pattern
pattern_at_same path name value other objects same = then_same _ _ _ _ (ap field (needed_same path name value other objects same)) (λ member. refl)

pub match_same : (read : PathReading) (path : List ℕ) (n : ℕ) (value other : Data) → AgreeOn path_match_names value other → path_match_with read path n value ≡ path_match_with read path n other
unfolding path_match_with
match_same read path n value other agree =
    let o = agree.objects in
    let m = agree.members in
    then_same _ _ _ _ refl (λ count.
    then_same _ _ _ _ (link_same path value other m.0) (λ plain.
    then_same _ _ _ _ (pattern_at_same path (codes "path-pattern") value other o m.1.0) (λ pattern.
    then_same _ _ _ _ (level_at_same read path (codes "path-metadata") count value other o m.1.1.0) (λ level. refl))))

pub host_same : (path : List ℕ) (n : ℕ) (value other : Data) → AgreeOn host_match_names value other → host_match_of path n value ≡ host_match_of path n other
unfolding host_match_of
host_same path n value other agree =
    let o = agree.objects in
    let m = agree.members in
    then_same _ _ _ _ refl (λ count.
    then_same _ _ _ _ (link_same path value other m.0) (λ plain.
    then_same _ _ _ _ (text_same path (codes "host") value other o m.1.0) (λ text.
    then_same _ _ _ _ refl (λ host.
    then_same _ _ _ _ (level_at_same _ path (codes "host-metadata") count value other o m.1.1.0) (λ level. refl)))))
