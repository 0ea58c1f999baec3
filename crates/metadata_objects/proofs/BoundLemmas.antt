-- What is read is within the limits.
use Rattle.std.proofs.Common.{◌≡◌, ℕ, zero, suc, ◌+◌, ◌<◌, ◌≤◌, Bool, true, false, cond, List, [], ◌∷◌, length, refl, sym, subst, ◌∙◌, ap, arith, None, Some, Ok, Err, IfOk, codes, nat_le, nat_lt, bytes_eq}
use Rattle.std.proofs.lemmas.Bool.{leb-true, ltb-true}
use Rattle.std.proofs.lemmas.List.{length-map}
use Rattle.std.proofs.lemmas.List.Elements.{All-cons, All-nil}
use Rattle.std.specs.List.{All}
use Rattle.std.specs.Option.{option_and_then}
use Rattle.std.specs.Result.{result_ok}
use Rattle.std.proofs.Math.Nat.{max-le}
use Rattle.std.specs.Str.{str_to_ascii_lowercase}
use Rattle.std.specs.declared.option.Option.{Option}
use Rattle.std.specs.declared.result.Result.{Result}
use Rattle.serde_json.specs.Data.{Data, Items, no_items, item}
use Rattle.serde_json.specs.Find.{get, as_object, as_array}
use Rattle.pattern_match.specs.Matching.{Compiled}
use Rattle.cdni_base.specs.declared.source_item.SourceItem.{SourceItem}
use Rattle.targets.proofs.EndpointLemmas.{ok_same, err_ok, some_same}
use Rattle.targets.proofs.UrlLemmas.{lower_twice}
use Rattle.json_read.specs.Field.{◌>>=◌, looked_up, needed, items_of}
use Rattle.json_read.specs.Path.{child_of, item_of}
use Rattle.targets.specs.Endpoint.{endpoint_of}
use Rattle.cdni_base.specs.declared.type_name.TheConstants.{TYPE_NAME_MAX}
use Rattle.json_read.specs.declared.fault.FieldFault.{FieldFault}
use Rattle.metadata_objects.specs.Generic.{kind_of, held_as, held_of, understood, understood_list, generic_of, HasFewEndpoints, IsRead}
use Rattle.metadata_objects.specs.Host.{host_match_of, hosts_of, host_index_of, IsWithinLimits}
use Rattle.metadata_objects.specs.Cache.{ignored_in, grouping_in}
use Rattle.metadata_objects.specs.Lists.{locations_in, times_in, protocols_in}
use Rattle.metadata_objects.specs.Items.{each_of}
use Rattle.metadata_objects.specs.Level.{PathReading, metadata_found, metadata_of, paths_found, paths_of, level_with, needed_level, needed_pattern, path_match_with, path_match_of}
use Rattle.metadata_objects.specs.LevelData.{LevelData, level_data, branches_of, count_at, count_below, depth_at, depth_below, EachAt, EachBelow, Index, Site, count_of}
use Rattle.metadata_objects.specs.Reading.{Reading, Gives, field, counted, no_link, needed_text, flag_or, all_of, in_range}
use Rattle.metadata_objects.specs.Source.{sources_in, source_in, listed_sources, few_sources, endpoint_count}
use Rattle.metadata_objects.specs.declared.fault.MetaFault.{MetaFault}
use Rattle.metadata_objects.specs.declared.source.TheConstants.{ENDPOINTS_MAX}
use Rattle.metadata_objects.specs.declared.generic.Generic.{Generic}
use Rattle.metadata_objects.specs.declared.generic.Held.{Held}
use Rattle.metadata_objects.specs.declared.generic.Held.TheVariants as held
use Rattle.metadata_objects.specs.declared.object.TheConstants.{OBJECTS_MAX}
use Rattle.metadata_objects.specs.declared.host.TheConstants.{NESTING_MAX}

-- ---- readings that succeed

-- where two readings in a row succeed, so did the first, and the second with its value
bound : {A B F : Type 0} (first : Result A F) (next : A → Result B F) (b : B) → (first >>= next) ≡ Ok b → (a : A) × (first ≡ Ok a) × (next a ≡ Ok b)
bound (Ok a) next b is = (a, refl, is)
bound (Err fault) next b is = absurd (err_ok b fault is)

field_is : {A : Type 0} (reading : Result A FieldFault) (a : A) → field reading ≡ Ok a → reading ≡ Ok a
field_is (Ok x) a is = ap Ok (ok_same x a is)
field_is (Err fault) a is = absurd (cc)

-- a reading after n objects answers a value of which this is said, with the objects that are counted then
abbrev IsCounted : {A : Type 0} → (A → Type 0) → (A → ℕ) → ℕ → A × ℕ → Type 0
IsCounted Is size n r = (r.1 ≡ n + size r.0) × (n ≤ OBJECTS_MAX → r.1 ≤ OBJECTS_MAX) × Is r.0

abbrev Counts : {A : Type 0} → (A → Type 0) → (A → ℕ) → (List ℕ → ℕ → Data → Reading (A × ℕ)) → Type 0
Counts {A} Is size read = (path : List ℕ) (n : ℕ) (value : Data) (r : A × ℕ) → read path n value ≡ Ok r → IsCounted Is size n r

abbrev total : {A : Type 0} → (A → ℕ) → List A → ℕ
total size [] = 0
total size (x ∷ xs) = size x + total size xs

all_counted : {A : Type 0} (Is : A → Type 0) (size : A → ℕ) (read : List ℕ → ℕ → Data → Reading (A × ℕ)) → Counts Is size read
    → (path : List ℕ) (i n : ℕ) (items : Items) (r : List A × ℕ) → all_of read path i n items ≡ Ok r → IsCounted (All Is) (total size) n r
unfolding all_of
all_counted Is size read counts path i n no_items r is = subst (IsCounted (All Is) (total size) n) (ok_same ([], n) r is) (omega arith, λ h. h, All-nil Is)
all_counted Is size read counts path i n (item value values) r is =
    let first = bound (read (item_of path i) n value) _ r is in
    let others = bound (all_of read path (i + 1) first.0.1 values) _ r first.2 in
    let f = counts (item_of path i) n value first.0 first.1 in
    let o = all_counted Is size read counts path (i + 1) first.0.1 values others.0 others.1 in
    subst (IsCounted (All Is) (total size) n) (ok_same (first.0.0 ∷ others.0.0, others.0.1) r others.2)
    (omega (arith, f.0, o.0), λ h. o.1 (f.1 h), All-cons Is first.0.0 others.0.0 f.2 o.2)

guarded_ok : {A F : Type 0} (b : Bool) (a m : A) (fault : F) → cond b (Ok a) (Err fault) ≡ Ok m → (b ≡ true) × (a ≡ m)
guarded_ok true a m fault is = (refl, ok_same a m is)
guarded_ok false a m fault is = absurd (cc)

guarded_some : {A : Type 0} (b : Bool) (found : Option A) (m : A) → cond b found None ≡ Some m → (b ≡ true) × (found ≡ Some m)
guarded_some true found m is = (refl, is)
guarded_some false found m is = absurd (cc)

counted_is : (n m : ℕ) → counted n ≡ Ok m → (n < OBJECTS_MAX) × (m ≡ n + 1)
counted_is n m is = let g = guarded_ok (nat_lt n OBJECTS_MAX) (n + 1) m _ is in (ltb-true n OBJECTS_MAX g.0, sym g.1)

range_is : {A : Type 0} (path : List ℕ) (found : Option A) (a : A) → in_range path found ≡ Ok a → found ≡ Some a
range_is path (Some x) a is = ap Some (ok_same x a is)
range_is path None a is = absurd (cc)

-- ---- an object

length_lowered : (text : List ℕ) → length (str_to_ascii_lowercase text) ≡ length text
length_lowered text = length-map text _

kind_is : (text kind : List ℕ) → kind_of text ≡ Some kind → (1 ≤ length kind) × (length kind ≤ TYPE_NAME_MAX) × (str_to_ascii_lowercase kind ≡ kind)
unfolding kind_of
kind_is text kind is =
    let some = guarded_some (nat_lt 0 (length text)) _ kind is in
    let short = guarded_some (nat_le (length (str_to_ascii_lowercase text)) TYPE_NAME_MAX) _ kind some.1 in
    let same : str_to_ascii_lowercase text ≡ kind = some_same (str_to_ascii_lowercase text) kind short.1 in
    let more = ltb-true 0 (length text) some.0 in
    let most = leb-true (length (str_to_ascii_lowercase text)) TYPE_NAME_MAX short.0 in
    let long = length_lowered text in
    subst (λ (k : List ℕ). (1 ≤ length k) × (length k ≤ TYPE_NAME_MAX) × (str_to_ascii_lowercase k ≡ k)) same (omega (arith, more, long), most, lower_twice text)

few_if : (b : Bool) (x y : Held) → HasFewEndpoints x → HasFewEndpoints y → HasFewEndpoints (cond b x y)
few_if true x y p q = p
few_if false x y p q = q

few_as : {A : Type 0} (of : A → Held) (found : Option A) → ((a : A) → found ≡ Some a → HasFewEndpoints (of a)) → HasFewEndpoints (held_as of found)
few_as of None p = tt
few_as of (Some a) p = p a refl

then_some : {A B : Type 0} (f : A → Option B) (found : Option A) (b : B) → option_and_then f found ≡ Some b → (a : A) × (found ≡ Some a) × (f a ≡ Some b)
then_some f None b is = absurd (cc)
then_some f (Some a) b is = (a, refl, is)

listed_few : (found : Option Data) (sources : List SourceItem) → listed_sources found ≡ Some sources → endpoint_count sources ≤ ENDPOINTS_MAX
listed_few None sources is = let none : [] ≡ sources = some_same [] sources is in subst (λ (s : List SourceItem). endpoint_count s ≤ ENDPOINTS_MAX) none (omega arith)
listed_few (Some list) sources is =
    let read = then_some few_sources (option_and_then (each_of source_in) (as_array list)) sources is in
    let few = guarded_some (nat_le (endpoint_count read.0) ENDPOINTS_MAX) (Some read.0) sources read.2 in
    let same : read.0 ≡ sources = some_same read.0 sources few.1 in
    subst (λ (s : List SourceItem). endpoint_count s ≤ ENDPOINTS_MAX) same (leb-true (endpoint_count read.0) ENDPOINTS_MAX few.0)

sources_few : (value : Data) (sources : List SourceItem) → sources_in value ≡ Some sources → endpoint_count sources ≤ ENDPOINTS_MAX
unfolding sources_in
sources_few value sources is = let read = then_some _ (as_object value) sources is in listed_few (get (codes "sources") value) sources read.2

few_list : (kind : List ℕ) (value : Data) → HasFewEndpoints (understood_list kind value)
unfolding understood_list
few_list kind value =
    few_if (bytes_eq kind (codes "mi.locationacl")) _ _ (few_as held.Location (locations_in value) (λ a is. tt))
    (few_if (bytes_eq kind (codes "mi.timewindowacl")) _ _ (few_as held.Time (times_in value) (λ a is. tt))
    (few_if (bytes_eq kind (codes "mi.protocolacl")) _ _ (few_as held.Protocol (protocols_in value) (λ a is. tt)) tt))

few_understood : (kind : List ℕ) (value : Data) → HasFewEndpoints (understood kind value)
unfolding understood
few_understood kind value =
    few_if (bytes_eq kind (codes "mi.sourcemetadata")) _ _ (few_as held.Source (sources_in value) (λ sources is. sources_few value sources is))
    (few_if (bytes_eq kind (codes "mi.cache")) _ _ (few_as held.Cache (ignored_in value) (λ a is. tt))
    (few_if (bytes_eq kind (codes "mi.grouping")) _ _ (few_as held.Grouping (grouping_in value) (λ a is. tt)) (few_list kind value)))

few_held : (incomprehensible : Bool) (kind : List ℕ) (value : Data) → HasFewEndpoints (held_of incomprehensible kind value)
few_held incomprehensible kind value = few_if incomprehensible held.NotUnderstood (understood kind value) tt (few_understood kind value)

generic_counted : Counts IsRead (λ object. 1) generic_of
unfolding generic_of
generic_counted path n value r is =
    let m = bound (counted n) _ r is in
    let plain = bound (no_link path value) _ r m.2 in
    let text = bound (needed_text path (codes "generic-metadata-type") value) _ r plain.2 in
    let kind = bound (in_range (child_of path (codes "generic-metadata-type")) (kind_of text.0)) _ r text.2 in
    let inner = bound (field (needed path (codes "generic-metadata-value") value)) _ r kind.2 in
    let mandatory = bound (flag_or path (codes "mandatory-to-enforce") true value) _ r inner.2 in
    let redistribute = bound (flag_or path (codes "safe-to-redistribute") true value) _ r mandatory.2 in
    let incomprehensible = bound (flag_or path (codes "incomprehensible") false value) _ r redistribute.2 in
    let number = counted_is n m.0 m.1 in
    let k = kind_is text.0 kind.0 (range_is _ (kind_of text.0) kind.0 kind.1) in
    subst (IsCounted IsRead (λ object. 1) n) (ok_same _ r incomprehensible.2)
    (number.1, λ h. omega (arith, number.0, number.1), record { named = k.0; short = k.1; lower = k.2; few = few_held incomprehensible.0 kind.0 inner.0 })

-- ---- a level

abbrev LevelIs : ℕ → LevelData → Type 0
LevelIs left level = (depth_at level ≤ left) × EachAt IsRead level

abbrev PathIs : ℕ → Compiled × LevelData → Type 0
PathIs left path = (1 + depth_at path.1 ≤ left) × EachAt IsRead path.1

abbrev path_size : Compiled × LevelData → ℕ
path_size path = 1 + count_at path.1

total_ones : (objects : List Generic) → total (λ object. 1) objects ≡ length objects
total_ones [] = refl
total_ones (object ∷ objects) = let h = total_ones objects in omega (arith, h)

total_paths : (paths : List (Compiled × LevelData)) → total path_size paths ≡ count_below (branches_of paths)
total_paths [] = refl
total_paths (path ∷ paths) = let h = total_paths paths in omega (arith, h)

first_of : {A : Type 0} (Is : A → Type 0) (x : A) (xs : List A) → All Is (x ∷ xs) → Is x
first_of Is x xs all = all 0 x (omega arith)

rest_of : {A : Type 0} (Is : A → Type 0) (x : A) (xs : List A) → All Is (x ∷ xs) → All Is xs
rest_of Is x xs all = λ k d below. all (suc k) d (omega (arith, below))

paths_are : (left : ℕ) (paths : List (Compiled × LevelData)) → All (PathIs left) paths → (depth_below (branches_of paths) ≤ left) × EachBelow IsRead (branches_of paths)
paths_are left [] all = (omega arith, tt)
paths_are left (path ∷ paths) all =
    let here = first_of (PathIs left) path paths all in
    let there = paths_are left paths (rest_of (PathIs left) path paths all) in (max-le here.0 there.0, (here.1, there.1))

metadata_counted : (path : List ℕ) (n : ℕ) (found : Option Data) (r : List Generic × ℕ) → metadata_found path n found ≡ Ok r → IsCounted (All IsRead) length n r
metadata_counted path n None r is = subst (IsCounted (All IsRead) length n) (ok_same ([], n) r is) (omega arith, λ h. h, All-nil IsRead)
metadata_counted path n (Some list) r is =
    let items = bound (field (items_of path list)) _ r is in
    let all = all_counted IsRead (λ object. 1) generic_of generic_counted path 0 n items.0 r items.2 in
    (all.0 ∙ ap (λ (k : ℕ). n + k) (total_ones r.0), all.1, all.2)

paths_counted : (left : ℕ) (read : PathReading) → Counts (PathIs left) path_size read
    → (path : List ℕ) (n : ℕ) (found : Option Data) (r : List (Compiled × LevelData) × ℕ) → paths_found read path n found ≡ Ok r → IsCounted (All (PathIs left)) (total path_size) n r
paths_counted left read counts path n None r is = subst (IsCounted (All (PathIs left)) (total path_size) n) (ok_same ([], n) r is) (omega arith, λ h. h, All-nil (PathIs left))
paths_counted left read counts path n (Some list) r is =
    let items = bound (field (items_of path list)) _ r is in all_counted (PathIs left) path_size read counts path 0 n items.0 r items.2

level_counted : (left : ℕ) (read : PathReading) → Counts (PathIs left) path_size read → Counts (LevelIs left) count_at (level_with read)
unfolding level_with metadata_of paths_of
level_counted left read counts path n value r is =
    let plain = bound (no_link path value) _ r is in
    let metadata = bound (metadata_of path n value) _ r plain.2 in
    let paths = bound (paths_of read path metadata.0.1 value) _ r metadata.2 in
    let objects_found = bound (field (looked_up path (codes "metadata") value)) _ metadata.0 metadata.1 in
    let paths_found_there = bound (field (looked_up path (codes "paths") value)) _ paths.0 paths.1 in
    let objects = metadata_counted _ n objects_found.0 metadata.0 objects_found.2 in
    let below = paths_counted left read counts _ metadata.0.1 paths_found_there.0 paths.0 paths_found_there.2 in
    let are = paths_are left paths.0.0 below.2 in
    let sum = total_paths paths.0.0 in
    subst (IsCounted (LevelIs left) count_at n) (ok_same (level_data metadata.0.0 (branches_of paths.0.0), paths.0.1) r paths.2)
    (omega (arith, objects.0, below.0, sum), λ h. below.1 (objects.1 h), (are.0, (objects.2, are.1)))

needed_counted : (left : ℕ) (read : PathReading) → Counts (PathIs left) path_size read
    → (path name : List ℕ) (n : ℕ) (value : Data) (r : LevelData × ℕ) → needed_level read path name n value ≡ Ok r → IsCounted (LevelIs left) count_at n r
unfolding needed_level
needed_counted left read counts path name n value r is =
    let member = bound (field (needed path name value)) _ r is in level_counted left read counts (child_of path name) n member.0 r member.2

match_counted : (left : ℕ) (read : PathReading) → Counts (PathIs left) path_size read → Counts (PathIs (suc left)) path_size (path_match_with read)
unfolding path_match_with
match_counted left read counts path n value r is =
    let m = bound (counted n) _ r is in
    let plain = bound (no_link path value) _ r m.2 in
    let pattern = bound (needed_pattern path (codes "path-pattern") value) _ r plain.2 in
    let level = bound (needed_level read path (codes "path-metadata") m.0 value) _ r pattern.2 in
    let number = counted_is n m.0 m.1 in
    let l = needed_counted left read counts path (codes "path-metadata") m.0 value level.0 level.1 in
    subst (IsCounted (PathIs (suc left)) path_size n) (ok_same ((pattern.0, level.0.0), level.0.1) r level.2)
    (omega (arith, number.1, l.0), λ h. l.1 (omega (arith, number.0, number.1)), (omega (arith, l.2.0), l.2.1))

nested_counted : (left : ℕ) → Counts (PathIs left) path_size (path_match_of left)
unfolding path_match_of
nested_counted zero path n value r is = let m = bound (counted n) _ r is in absurd (cc)
nested_counted (suc left) path n value r is = match_counted left (path_match_of left) (nested_counted left) path n value r is

-- ---- a HostIndex

abbrev SiteIs : Site → Type 0
SiteIs site = LevelIs NESTING_MAX site.level

abbrev site_size : Site → ℕ
site_size site = 1 + count_at site.level

site_counted : Counts SiteIs site_size host_match_of
unfolding host_match_of
site_counted path n value r is =
    let m = bound (counted n) _ r is in
    let plain = bound (no_link path value) _ r m.2 in
    let text = bound (needed_text path (codes "host") value) _ r plain.2 in
    let host = bound (in_range (child_of path (codes "host")) (result_ok (endpoint_of text.0))) _ r text.2 in
    let level = bound (needed_level (path_match_of NESTING_MAX) path (codes "host-metadata") m.0 value) _ r host.2 in
    let number = counted_is n m.0 m.1 in
    let l = needed_counted NESTING_MAX (path_match_of NESTING_MAX) (nested_counted NESTING_MAX) path (codes "host-metadata") m.0 value level.0 level.1 in
    subst (IsCounted SiteIs site_size n) (ok_same (record { host = host.0; level = level.0.0 }, level.0.1) r level.2)
    (omega (arith, number.1, l.0), λ h. l.1 (omega (arith, number.0, number.1)), l.2)

total_sites : (index : Index) → total site_size index ≡ count_of index
total_sites [] = refl
total_sites (site ∷ sites) = let h = total_sites sites in omega (arith, h)

pub index_within : (value : Data) (index : Index) → host_index_of value ≡ Ok index → IsWithinLimits index
unfolding host_index_of
index_within value index is =
    let list = bound (field (needed [] (codes "hosts") value)) _ index is in
    let items = bound (field (items_of (child_of [] (codes "hosts")) list.0)) _ index list.2 in
    let hosts = bound (hosts_of (child_of [] (codes "hosts")) 0 items.0) _ index items.2 in
    let all = all_counted SiteIs site_size host_match_of site_counted (child_of [] (codes "hosts")) 0 0 items.0 hosts.0 hosts.1 in
    let sum = total_sites hosts.0.0 in
    let most = all.1 (omega arith) in
    subst IsWithinLimits (ok_same hosts.0.0 index hosts.2) (record {
      objects = omega (arith, all.0, sum, most);
      nesting = λ k d below. (all.2 k d below).0;
      each = λ k d below. (all.2 k d below).1;
    })

-- a reader's index is within the limits
pub given_within : {A : Type 0} (seen : A → Index) (result : Result A MetaFault) (reading : Reading Index) → ((index : Index) → reading ≡ Ok index → IsWithinLimits index)
    → Gives seen result reading → IfOk result (λ a. IsWithinLimits (seen a))
given_within seen (Ok a) reading within given = within (seen a) given
given_within seen (Err fault) reading within given = tt
