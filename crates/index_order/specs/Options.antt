-- How the index stands in threads and in order.
use Rattle.index_order.specs.declared.options.SortOptions.{SortOptions}
use Rattle.index_order.specs.declared.view_options.ViewOptions.{ViewOptions}

-- how the order is sorted
abbrev pub sort_options : ViewOptions → SortOptions
sort_options o = record {
  sort = o.sort;
  reverse = o.reverse;
  aux = o.aux;
  aux_reverse = o.aux_reverse;
  aux_last = o.aux_last;
}
