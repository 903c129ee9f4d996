-- What is known of the pages of the first cache that was made.
mod FirstPages
