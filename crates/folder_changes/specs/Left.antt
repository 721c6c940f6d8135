-- What a sync leaves of the listing of a folder.
use Rattle.std.specs.Prelude.{◌∷◌, [], List, Option, Some, None}
use Rattle.std.specs.List.{flat_map}
use Rattle.mail_base.specs.Flags.{applied, stored}
use Rattle.mail_base.specs.declared.kind.Kind.{Kind}
use Rattle.folder_letters.specs.declared.listing.Listed.{Listed}
use Rattle.index_items.specs.Changes.{Changed, PlainChange, Alters, Discards, change_for}

-- what a sync leaves of a listed message: its flags with the change, as the kind can hold them
abbrev pub changed_listed : Kind → Listed → Option PlainChange → List Listed
changed_listed kind listed None = listed ∷ []
changed_listed kind listed (Some (Alters added cleared)) =
    record listed { flags = stored kind (applied listed.flags added cleared) } ∷ []
changed_listed kind listed (Some Discards) = []

-- what a sync with these changes leaves of a listing
abbrev pub listing_synced : Kind → List Changed → List Listed → List Listed
listing_synced kind changes listing =
    flat_map (λ listed. changed_listed kind listed (change_for changes listed.id.0)) listing
