-- The messages of an MH folder from which the file of a number went.
use Rattle.std.proofs.Common.{◌≡◌, ◌≢◌, ◌++◌, ℕ, Bool, true, false, List, [], ◌∷◌}
use Rattle.std.proofs.Common.{Option, Some, None, refl, sym, ◌∙◌, ap}
use Rattle.std.proofs.Common.{if◌then◌else◌, option_map}
use Rattle.std.proofs.lemmas.Slice.Eq.{bytes_eq-Decides}
use Rattle.std.specs.Prelude.{option_and_then}
use Rattle.std.specs.Str.{bytes_eq}
use Rattle.mail_base.specs.Ordered.{IsIn}
use Rattle.mail_base.specs.declared.kind.Kind.TheVariants.{Mh}
use Rattle.disk_model.specs.Tree.{TreeNode}
use Rattle.disk_model.proofs.Trees.{bytes_same}
use Rattle.index_items.specs.Changes.{Discards}
use Rattle.folder_core.specs.Directory.{file_at, is_folder_at, path_in}
use Rattle.folder_core.specs.Message.{Message}
use Rattle.folder_core.specs.Mh.{is_number, mh_messages, message_at, message_of}
use Rattle.folder_core.specs.Mh.{mh_reads, sequences_at}
use Rattle.folder_changes.specs.Wanted.{change_at, changed, wanted}
use Rattle.folder_changes.proofs.OrderLemmas.{same_lists}
use Rattle.folder_drivers.specs.MhSync.{only_discard}
use Rattle.mh_syncs.specs.Parts.{gone_at}
use Rattle.folder_drivers.proofs.MhMessages.{in_wanted, message_named, message_order, message_same}
use Rattle.folder_drivers.proofs.MhMessages.{messages_rise, named_message, none_is, reads_by}
use Rattle.folder_drivers.proofs.MhMessages.{stands_before, true_false, wanted_in, wanted_rises}

-- a discard of one key, told among discards alone
gone_wanted : (key : List ℕ) (l : List Message)
    → wanted Mh (change_at key Discards) l ≡ wanted Mh (gone_at key Discards) l
gone_wanted key [] = refl
gone_wanted key (m ∷ l) = by (bytes_eq m.key key) (gone_wanted key l)
  where
    by : (t : Bool)
        → wanted Mh (change_at key Discards) l ≡ wanted Mh (gone_at key Discards) l
        → changed Mh (if t then Some Discards else None) m ++ wanted Mh (change_at key Discards) l
        ≡ changed Mh (only_discard (if t then Some Discards else None)) m
        ++ wanted Mh (gone_at key Discards) l
    by true again = again
    by false again = ap (λ (rest : List Message). m ∷ rest) again

gone_option : (key : List ℕ) (found : Option (List Message))
    → option_map (wanted Mh (change_at key Discards)) found
    ≡ option_map (wanted Mh (gone_at key Discards)) found
gone_option key None = refl
gone_option key (Some l) = ap Some (gone_wanted key l)

-- a folder of which the file of one number went reads as before without its message
left_reads : (path key : List ℕ) (old new : List TreeNode)
    → is_folder_at new path ≡ is_folder_at old path
    → sequences_at new path ≡ sequences_at old path
    → file_at new (path_in path key) ≡ None
    → ((name : List ℕ) → is_number name ≡ true → name ≢ key
    → file_at new (path_in path name) ≡ file_at old (path_in path name))
    → mh_reads new path ≡ option_map (wanted Mh (change_at key Discards)) (mh_reads old path)
left_reads path key old new folder sequences gone others =
    reads_by path old new (wanted Mh (change_at key Discards)) _ _ folder
    (same_lists stands_before message_order (mh_messages new path)
    (wanted Mh (change_at key Discards) (mh_messages old path)) (messages_rise new path)
    (wanted_rises key (mh_messages old path) (messages_rise old path))
    (λ m held. to m held) (λ m held. from m held))
  where
    other_key : (name : List ℕ) → bytes_eq name key ≡ false → name ≢ key
    other_key name other is = true_false
        (sym ((bytes_eq-Decides name key).1 is) ∙ other)

    at_key : (m : Message) → is_number m.key ≡ true → bytes_eq m.key key ≡ false
        → message_at new path (sequences_at new path) m.key
        ≡ message_at old path (sequences_at old path) m.key
    at_key m number other =
        message_same path old new (sequences_at new path) (sequences_at old path) m.key sequences
        (others m.key number (other_key m.key other))

    to : (m : Message) → IsIn m (mh_messages new path)
        → IsIn m (wanted Mh (change_at key Discards) (mh_messages old path))
    to m held = by (bytes_eq m.key key) refl
      where
        by : (t : Bool) → bytes_eq m.key key ≡ t
            → IsIn m (wanted Mh (change_at key Discards) (mh_messages old path))
        by true is =
            let at = message_named path new m held in
            let same = bytes_same m.key key is in
            absurd (none_is m
            (sym (ap (λ (k : List ℕ). message_at new path (sequences_at new path) k) same
            ∙ ap (option_and_then (message_of (sequences_at new path) key)) gone) ∙ at.1))
        by false is =
            let at = message_named path new m held in
            wanted_in key (mh_messages old path) m
            (named_message path old m m.key at.0 (sym (at_key m at.0 is) ∙ at.1)) is

    from : (m : Message) → IsIn m (wanted Mh (change_at key Discards) (mh_messages old path))
        → IsIn m (mh_messages new path)
    from m held =
        let is = in_wanted key (mh_messages old path) m held in
        let at = message_named path old m is.0 in
        named_message path new m m.key at.0 (at_key m at.0 is.1 ∙ at.1)

pub gone_reads : (path key : List ℕ) (old new : List TreeNode)
    → is_folder_at new path ≡ is_folder_at old path
    → sequences_at new path ≡ sequences_at old path
    → file_at new (path_in path key) ≡ None
    → ((name : List ℕ) → is_number name ≡ true → name ≢ key
    → file_at new (path_in path name) ≡ file_at old (path_in path name))
    → mh_reads new path ≡ option_map (wanted Mh (gone_at key Discards)) (mh_reads old path)
gone_reads path key old new folder sequences gone others =
    left_reads path key old new folder sequences gone others
    ∙ gone_option key (mh_reads old path)
