-- Reading the texts of a tree that aren't rc files.
use Rattle.std.proofs.Common.{◌≡◌, ℕ, ◌<◌, ◌≤◌, ◌⊎◌, List, ◌++◌, length, Option, Some, None, Ok, Err, true, false, refl, sym, subst, inl, inr, ◌∙◌}
use Rattle.std.specs.Prelude.{IfSome, IsSomeAnd}
use Rattle.init_base.specs.Outside.{ReadsFile}
use Rattle.init_base.specs.Tree.{file_at}
use Rattle.init_base.specs.declared.outside.refusal.ReadRefusal.{ReadRefusal}
use Rattle.init_base.specs.declared.outside.refusal.ReadRefusal.TheVariants as reading
use Rattle.init_machine.specs.Policy.{PolicyLines}
use Rattle.init_machine.specs.declared.limit.Limit.{Limit}
use Rattle.init_machine.specs.declared.limit.Limit.TheVariants as limits
use Rattle.prop_contexts.specs.Grammar.{IsPolicy, IsRefused}
use Rattle.prop_contexts.specs.declared.refusal.PolicyRefusal.{PolicyRefusal}
use Rattle.prop_contexts.specs.declared.refusal.PolicyRefusal.TheVariants as policy
use Rattle.prop_rules.specs.Build.{IsBuildFile}
use Rattle.prop_rules.specs.declared.build.BuildProps.{BuildProps}
use Rattle.rc_import.proofs.BuildFiles.{both_read}
use Rattle.rc_import.specs.World.{World}
use Rattle.job_reader.specs.Check.{IsCheckStatus}
use Rattle.job_reader.specs.Stops.{AreBuildFiles, GivesBuildFile, GivesBuildFiles, GivesPolicy, GivesText, IsOfTree, policy_stop, reading_stop, status_of}
use Rattle.job_reader.specs.Texts.{Tree, allow_text, build_text, bytes_or, contexts_text, system_path, vendor_path}
use Rattle.job_reader.specs.Tree.{IsTreeTooLarge, TreeLimitSays}
use Rattle.job_reader.specs.Tree.Purpose.{ToRun}
use Rattle.job_reader.specs.declared.stop.Stop.{Stop}
use Rattle.job_reader.specs.declared.stop.Stop.TheVariants as stop

-- ---- one text

text_there : (absent text : List ℕ) (file : Option (List ℕ)) → file ≡ Some text → length text ≤ 1048576 → GivesText (bytes_or absent file) (Ok text)
text_there absent text file there short =
    subst (λ f. GivesText (bytes_or absent f) (Ok text)) (sym there) (refl, short)

pub gives_text : (told : Option Tree) (path absent text : List ℕ) (most : ℕ)
    → ReadsFile told path most (Ok (Some text)) → length text ≤ 1048576
    → IfSome told (λ tree. GivesText (bytes_or absent (file_at tree path)) (Ok text))
gives_text None path absent text most reads short = tt
gives_text (Some tree) path absent text most reads short = text_there absent text (file_at tree path) reads short

text_absent : (absent text : List ℕ) (file : Option (List ℕ)) → file ≡ None → text ≡ absent → length absent ≤ 1048576
    → GivesText (bytes_or absent file) (Ok text)
text_absent absent text file none same short = subst (λ f. GivesText (bytes_or absent f) (Ok text)) (sym none) (same, short)

pub gives_absent : (told : Option Tree) (path absent text : List ℕ) (most : ℕ)
    → ReadsFile told path most (Ok None) → text ≡ absent → length absent ≤ 1048576
    → IfSome told (λ tree. GivesText (bytes_or absent (file_at tree path)) (Ok text))
gives_absent None path absent text most reads same short = tt
gives_absent (Some tree) path absent text most reads same short = text_absent absent text (file_at tree path) reads same short

text_long : (absent : List ℕ) (file : Option (List ℕ)) → IsSomeAnd file (λ bytes. 1048576 < length bytes)
    → GivesText (bytes_or absent file) (Err (stop.TooLarge limits.FileBytes 1048577))
text_long absent None long = absurd long
text_long absent (Some text) long = (long, refl, refl)

pub unread_text : (told : Option Tree) (path absent : List ℕ) (why : ReadRefusal)
    → ReadsFile told path 1048576 (Err why)
    → IfSome told (λ tree. GivesText (bytes_or absent (file_at tree path)) (Err (reading_stop limits.FileBytes 1048576 why)))
unread_text None path absent why reads = tt
unread_text (Some tree) path absent reading.Failed reads = tt
unread_text (Some tree) path absent reading.TooLarge reads = text_long absent (file_at tree path) reads
unread_text (Some tree) path absent reading.NoMemory reads = tt

pub unread_kind : (most : ℕ) (why : ReadRefusal) → IsCheckStatus (status_of (reading_stop limits.FileBytes most why))
unread_kind most reading.Failed = tt
unread_kind most reading.TooLarge = tt
unread_kind most reading.NoMemory = tt

pub read_as : (text one read : List ℕ) → read ≡ one → GivesText text (Ok one) → GivesText text (Ok read)
read_as text one read same gives = (same ∙ gives.0, gives.1)

-- ---- the policy

large_policy : (world : World) (text : List ℕ) (limit : Limit) (number : ℕ)
    → (1048576 < length text → IsTreeTooLarge ToRun world limits.FileBytes 1048577)
    → (1048576 < length text) × (limit ≡ limits.FileBytes) × (number ≡ 1048577) → TreeLimitSays ToRun world limit number
large_policy world text limit number says long =
    subst (λ l. TreeLimitSays ToRun world l number) (sym long.1)
    (subst (λ n. TreeLimitSays ToRun world limits.FileBytes n) (sym long.2) (says long.0))

policy_text : (world : World) (text : List ℕ) (why : Stop)
    → (1048576 < length text → IsTreeTooLarge ToRun world limits.FileBytes 1048577)
    → GivesText text (Err why) → GivesPolicy world (Err why)
policy_text world text stop.ReadFault says gives = tt
policy_text world text stop.NoMemory says gives = tt
policy_text world text (stop.BadScript line) says gives = absurd gives
policy_text world text stop.NoInit says gives = absurd gives
policy_text world text (stop.TooLarge limit number) says gives = large_policy world text limit number says gives
policy_text world text (stop.BadPolicy allow line) says gives = absurd gives
policy_text world text (stop.BadStore line why) says gives = absurd gives
policy_text world text stop.BadTrace says gives = absurd gives

pub unread_contexts : (world : World) (why : Stop) → GivesText (contexts_text world.tree) (Err why) → GivesPolicy world (Err why)
unread_contexts world why gives =
    policy_text world (contexts_text world.tree) why (λ long. inl (inl long, refl, refl)) gives

pub unread_allow : (world : World) (why : Stop) → GivesText (allow_text world.tree) (Err why) → GivesPolicy world (Err why)
unread_allow world why gives =
    policy_text world (allow_text world.tree) why (λ long. inl (inr long, refl, refl)) gives

pub policy_read : (world : World) (contexts allow : List ℕ) (lines : PolicyLines)
    → GivesText (contexts_text world.tree) (Ok contexts) → GivesText (allow_text world.tree) (Ok allow)
    → IsPolicy contexts allow lines → GivesPolicy world (Ok lines)
policy_read world contexts allow lines one other is = record {
  short = (one.1, other.1);
  policy_is =
      subst (λ c. IsPolicy c (allow_text world.tree) lines) one.0 (subst (λ a. IsPolicy contexts a lines) other.0 is);
}

refused_at : (world : World) (why : PolicyRefusal) → length (contexts_text world.tree) ≤ 1048576 → length (allow_text world.tree) ≤ 1048576
    → IsRefused (contexts_text world.tree) (allow_text world.tree) why → GivesPolicy world (Err (policy_stop why))
refused_at world (policy.BadLine false line) one other refused = record { short = (one, other); bad = inl refused }
refused_at world (policy.BadLine true line) one other refused = record { short = (one, other); bad = refused }
refused_at world (policy.Twice line) one other refused = record { short = (one, other); bad = inr (inl refused) }
refused_at world (policy.NoDefault line) one other refused = record { short = (one, other); bad = inr (inr refused) }
refused_at world policy.NoMemory one other refused = tt

pub policy_refused : (world : World) (contexts allow : List ℕ) (why : PolicyRefusal)
    → GivesText (contexts_text world.tree) (Ok contexts) → GivesText (allow_text world.tree) (Ok allow)
    → IsRefused contexts allow why → GivesPolicy world (Err (policy_stop why))
policy_refused world contexts allow why one other refused =
    refused_at world why one.1 other.1
    (subst (λ c. IsRefused c (allow_text world.tree) why) one.0 (subst (λ a. IsRefused contexts a why) other.0 refused))

pub refused_by_policy : (why : PolicyRefusal) → IsOfTree (policy_stop why)
refused_by_policy (policy.BadLine allow line) = tt
refused_by_policy (policy.Twice line) = tt
refused_by_policy (policy.NoDefault line) = tt
refused_by_policy policy.NoMemory = tt

-- ---- the build files

pub build_file_read : (path text bytes : List ℕ) (props : BuildProps)
    → GivesText text (Ok bytes) → IsBuildFile path bytes props → GivesBuildFile path text (Ok props)
build_file_read path text bytes props gives is = (subst (λ t. IsBuildFile path t props) gives.0 is, gives.1)

long_build_file : (tree : Tree) (text : List ℕ) (why : Stop)
    → (1048576 < length text → (1048576 < length (build_text tree system_path)) ⊎ (1048576 < length (build_text tree vendor_path)))
    → GivesText text (Err why) → GivesBuildFiles tree (Err why)
long_build_file tree text stop.ReadFault says gives = tt
long_build_file tree text stop.NoMemory says gives = tt
long_build_file tree text (stop.BadScript line) says gives = absurd gives
long_build_file tree text stop.NoInit says gives = absurd gives
long_build_file tree text (stop.TooLarge limit number) says gives = (says gives.0, gives.1, gives.2)
long_build_file tree text (stop.BadPolicy allow line) says gives = absurd gives
long_build_file tree text (stop.BadStore line why) says gives = absurd gives
long_build_file tree text stop.BadTrace says gives = absurd gives

pub unread_system : (tree : Tree) (why : Stop)
    → GivesBuildFile system_path (build_text tree system_path) (Err why) → GivesBuildFiles tree (Err why)
unread_system tree why gives = long_build_file tree (build_text tree system_path) why (λ long. inl long) gives

pub unread_vendor : (tree : Tree) (why : Stop)
    → GivesBuildFile vendor_path (build_text tree vendor_path) (Err why) → GivesBuildFiles tree (Err why)
unread_vendor tree why gives = long_build_file tree (build_text tree vendor_path) why (λ long. inr long) gives

pub build_files_read : (tree : Tree) (one other both : BuildProps)
    → GivesBuildFile system_path (build_text tree system_path) (Ok one)
    → GivesBuildFile vendor_path (build_text tree vendor_path) (Ok other)
    → both.pairs ≡ one.pairs ++ other.pairs → both.diagnostics ≡ one.diagnostics ++ other.diagnostics
    → AreBuildFiles tree both
build_files_read tree one other both first second pairs diagnostics =
    let are = both_read tree one other both first.0 second.0 pairs diagnostics in
    record { short = (first.1, second.1); pairs_are = are.0; diagnostics_are = are.1 }
