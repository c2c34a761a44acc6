mod Links
mod Lists
mod Orders
